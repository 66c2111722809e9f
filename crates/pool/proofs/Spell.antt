-- PROOFS. The words of a pool over a store: one word of a node read and stored
use mathlib.Core.Path.{◌≡◌, refl, ap, sym, subst, ◌∙◌}
use mathlib.Core.List.{List, [], ◌∷◌, ◌++◌, append_assoc, map, reverse}
use Prim.Native.Nat.{ℕ, zero, suc, ◌+◌, ◌-◌, ◌*◌, ◌≤◌, ◌<◌}
use native.Mathlib.Omega.{arith}
use lib.ListN.{length, get_or, set, length-append, length-map, get_or-append}
use lib.Seq.{get_or-append-add, set-append_left}
use borrow.Author.Tests.{eq-eqb, ne_eqb}
use Rattle.forest.specs.Lists.{pad}
use Rattle.forest.specs.Pools
use Rattle.forest.specs.Pools.{nodes_from}
use Rattle.forest.proofs.ListLaws.{set_right}
use Rattle.pool.specs.Stores.{Store, put, spell, Sixteen, base}

pub put_same : (st : Store) (n : ℕ) (w : List ℕ) → put st n w n ≡ w
put_same st n w = simp (eq-eqb n n refl)

pub put_other : (st : Store) (n : ℕ) (w : List ℕ) (x : ℕ) → (x ≡ n → ⊥) → put st n w x ≡ st x
put_other st n w x h = simp (ne_eqb x n h)

pub encode-spell : (p : Pools.Pool) → Pools.encode p ≡ spell (map Pools.root p.trees) p.count (Pools.node_words p.trees) p.free
unfolding Pools.encode spell
encode-spell p =
    rw (
      length-map p.trees Pools.root,
      append_assoc (map Pools.root p.trees) (p.count ∷ []) (nodes_from (Pools.node_words p.trees) 1 p.count ++ (length p.free ∷ pad p.count (reverse p.free))),
    )

-- stores that agree on 1..N spell the same
pub nodes_ext : (st st' : Store) (n c : ℕ) → ((x : ℕ) → n ≤ x → x < n + c → st x ≡ st' x) → nodes_from st n c ≡ nodes_from st' n c
nodes_ext st st' n zero h = refl
nodes_ext st st' n (suc c) h = rw (h n (omega arith) (omega arith), nodes_ext st st' (suc n) c (λ x a b. h x (omega arith) (omega arith)))

pub spell_ext : (roots : List ℕ) (N : ℕ) (st st' : Store) (free : List ℕ) → ((x : ℕ) → 1 ≤ x → x ≤ N → st x ≡ st' x) → spell roots N st free ≡ spell roots N st' free
unfolding spell
spell_ext roots N st st' free h = rw (nodes_ext st st' 1 N (λ x a b. h x a (omega arith)))

pub nodes_other : (st : Store) (m : ℕ) (w : List ℕ) (n c : ℕ) → m < n → nodes_from (put st m w) n c ≡ nodes_from st n c
nodes_other st m w n c h = nodes_ext (put st m w) st n c (λ x a b. put_other st m w x (λ q. omega arith))

-- one word
nodes_read : (st : Store) (post : List ℕ) (m c k i : ℕ) → Sixteen st → k < c → i < 16 → get_or (nodes_from st m c ++ post) (16 * k + i) 0 ≡ get_or (st (m + k)) i 0
nodes_read st post m zero k i s h l = absurd (omega arith)
nodes_read st post m (suc c) zero i s h l =
    let z : 16 * 0 + i ≡ i = omega arith in
    let y : m + 0 ≡ m = omega arith in
    rw (z, y, append_assoc) (get_or-append (st m) (nodes_from st (suc m) c ++ post) 0 i (rw (s m) l))
nodes_read st post m (suc c) (suc k) i s h l =
    let z : 16 * suc k + i ≡ length (st m) + (16 * k + i) = omega (arith, s m) in
    let y : m + suc k ≡ suc m + k = omega arith in
    rw (z, y, append_assoc) (get_or-append-add (st m) (nodes_from st (suc m) c ++ post) (16 * k + i) 0 ∙ nodes_read st post (suc m) c k i s (omega arith) l)

nodes_write : (st : Store) (post : List ℕ) (m c k i v : ℕ) → Sixteen st → k < c → i < 16 →
    set (nodes_from st m c ++ post) (16 * k + i) v ≡ nodes_from (put st (m + k) (set (st (m + k)) i v)) m c ++ post
nodes_write st post m zero k i v s h l = absurd (omega arith)
nodes_write st post m (suc c) zero i v s h l =
    let z : 16 * 0 + i ≡ i = omega arith in
    let y : m + 0 ≡ m = omega arith in
    rw z
    (subst (λ x. set (nodes_from st m (suc c) ++ post) i v ≡ nodes_from (put st x (set (st x) i v)) m (suc c) ++ post) (sym y)
    (rw (put_same st m (set (st m) i v), nodes_other st m (set (st m) i v) (suc m) c (omega arith), append_assoc, append_assoc)
    (set-append_left (st m) (nodes_from st (suc m) c ++ post) i v (rw (s m) l))))
nodes_write st post m (suc c) (suc k) i v s h l =
    let z : 16 * suc k + i ≡ length (st m) + (16 * k + i) = omega (arith, s m) in
    let y : m + suc k ≡ suc m + k = omega arith in
    rw z
    (subst (λ x. set (nodes_from st m (suc c) ++ post) (length (st m) + (16 * k + i)) v ≡ nodes_from (put st x (set (st x) i v)) m (suc c) ++ post) (sym y)
    (rw (put_other st (suc m + k) (set (st (suc m + k)) i v) m (λ q. omega arith), append_assoc, append_assoc)
    (set_right (16 * k + i) v (st m) (nodes_from st (suc m) c ++ post) ∙ ap (st m ++◌) (nodes_write st post (suc m) c k i v s (omega arith) l))))

module _ (roots : List ℕ) (N : ℕ) (st : Store) (free : List ℕ) (s : Sixteen st) (n : ℕ) (lo : 1 ≤ n) (hi : n ≤ N) where
  abbrev pre : List ℕ
  pre = length roots ∷ roots ++ (N ∷ [])

  pre_length : length pre ≡ length roots + 2
  pre_length = omega (arith, length-append roots (N ∷ []))

  pub read : (i : ℕ) → i < 16 → get_or (spell roots N st free) (base (length roots) n + i) 0 ≡ get_or (st n) i 0
  unfolding spell
  read i l =
      let z : base (length roots) n + i ≡ length pre + (16 * (n - 1) + i) = omega (arith, pre_length) in
      let y : 1 + (n - 1) ≡ n = omega arith in
      rw z (get_or-append-add pre (nodes_from st 1 N ++ (length free ∷ pad N (reverse free))) (16 * (n - 1) + i) 0 ∙
      nodes_read st (length free ∷ pad N (reverse free)) 1 N (n - 1) i s (omega arith) l ∙ rw y refl)

  pub write : (i v : ℕ) → i < 16 → set (spell roots N st free) (base (length roots) n + i) v ≡ spell roots N (put st n (set (st n) i v)) free
  unfolding spell
  write i v l =
      let z : base (length roots) n + i ≡ length pre + (16 * (n - 1) + i) = omega (arith, pre_length) in
      let y : 1 + (n - 1) ≡ n = omega arith in
      rw z (set_right (16 * (n - 1) + i) v pre (nodes_from st 1 N ++ (length free ∷ pad N (reverse free))) ∙
      ap (pre ++◌) (nodes_write st (length free ∷ pad N (reverse free)) 1 N (n - 1) i v s (omega arith) l ∙ rw y refl))
