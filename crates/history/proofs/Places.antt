-- PROOFS. Demand 2 on words, cursor calls: the promise gives the move on the one pool of the words, and that goes in its tree where the sorted list says
use mathlib.Core.Path.{◌≡◌, refl, sym, ap, subst, ◌∙◌}
use mathlib.Core.List.{List}
use mathlib.Core.Bool.{true, false, true≢false}
use mathlib.Core.Logic.{◌≢◌}
use mathlib.Core.Option.{Option, none, some}
use Prim.Native.Nat.{ℕ, suc, ◌-◌, ◌≤◌, ◌<◌}
use native.Mathlib.Omega.{arith}
use lib.ListN.{length, get_or, get_elem?}
use Rattle.std.specs.Prelude.{Err}
use Rattle.forest.specs.Sizes.{leaf_cap, leaf_least}
use Rattle.forest.specs.Pairs.{Item}
use Rattle.forest.specs.Rows.{Good}
use Rattle.forest.specs.Trees.{pairs}
use Rattle.forest.specs.declared.Refusal.TheVariants.{NoTree, NoPlace}
use Rattle.forest.specs.declared.Cursor.{Cursor}
use Rattle.forest.specs.Answers.{told, kept, Reply, nothing}
use Rattle.forest.specs.Pools.{Pool, WellFormed, Sound, tree_of}
use Rattle.forest.specs.Cursors.{Spot, off, leaves, pair_at, seek, position, spot_at, path_of, spot_of, path_in, stands, Move, to_first, to_key, to_next, to_prev, to_settled, to_remove, reads, blocked, move_from, move}
use Rattle.forest.specs.Promises.{Moves}
use Rattle.forest.proofs.ListLaws.{length-remove_at}
use Rattle.forest.proofs.Reasons.{passes, stops, verdict}
use Rattle.forest.proofs.PoolLaws.{good_at}
use Rattle.forest.proofs.RowLaws.{sum-sizes}
use Rattle.forest.proofs.CursorLaws.{nth_lt, leaves-joined}
use Rattle.forest.proofs.StandLaws.{stands-fits, stands_yes}
use Rattle.forest.proofs.Six.{six_levels}
use Rattle.forest.proofs.CursorCalls.{move-done, move-refused, move-reads, move_formed, moved-stands}
use Rattle.forest.proofs.MoveLaws.{row, list, spot_in, rank, seek-rank, MovesTo, first_goes, seek-goes, settle_goes, next-goes, next_past_goes, prev-goes, prev-first-goes, move_two, move_three, move_free}
use Rattle.forest.proofs.RemoveLaws.{remove_goes, remove_none, move_other_trees}
use Rattle.forest.proofs.PromiseLaws.{moves_same, trees_word}
use Rattle.history.specs.Holdings.{HoldsPairs, StandsAt, Whole, Comes, Arrives, Remains, Seeks, TakesOut}
use Rattle.history.proofs.Deciding.{sound, unsound, decide}
use Rattle.history.proofs.Spots.{spot_back, place_pair, position_le, place-rank, place_off, seek_found, move-trees, whole_at, one_cursor, off_size, size_off, done-kept}

-- Any move

module _ (m : ℕ) (lo : 1 ≤ m) (hi : m ≤ 4) {v : Move} {c d : Cursor} {ws us : List ℕ} {r : Reply} (k : Moves m v c ws us r d) where
  -- the pool of the words afterwards
  abbrev after-move : Sound m ws → Sound m us
  after-move s = record {
    pool = (move v c s.pool).pool;
    formed = move_formed m lo hi v c s.pool s.formed;
    same = k.sound_words s.pool s.formed s.same;
  }

  -- the answer and the cursor
  answered : (s : Sound m ws) → (move v c s.pool).answer ≡ r
  answered s = k.sound_answer s.pool s.formed s.same

  handed : (s : Sound m ws) → (move v c s.pool).cursor ≡ d
  handed s = k.sound_cursor s.pool s.formed s.same

  -- a pool that is as it was, in words
  -- and with it the cursor
  remains_by : (s : Sound m ws) {a : Reply} → move v c s.pool ≡ record { answer = a; cursor = c; pool = s.pool } → Remains c ws us r d a
  remains_by s e = record {
    words = moves_same m k s (ap (λ z. z.pool) e);
    answer = sym (answered s) ∙ ap (λ z. z.answer) e;
    cursor = sym (handed s) ∙ ap (λ z. z.cursor) e;
  }

  -- other trees keep their list, whatever the answer
  pub other_places : {t : ℕ} {ys : List Item} → t ≢ c.tree → HoldsPairs m ws t ys → HoldsPairs m us t ys
  other_places {t} n h = record {
    sound = after-move h.sound;
    there = rw (move-trees v c h.sound.pool) h.there;
    same = ap pairs (move_other_trees v c h.sound.pool t n) ∙ h.same;
  }

  -- a tree that is not there
  pub no_tree_moves : Sound m ws → get_or ws 0 0 ≤ c.tree → Remains c ws us r d (Err NoTree)
  no_tree_moves s h = let e = trees_word s in remains_by s (move-refused v c s.pool NoTree ((move_two v c s.pool).1 (omega arith)))

  -- a cursor that is read and does not stand
  pub no_place_moves : {xs : List Item} (h : HoldsPairs m ws c.tree xs) → reads v ≡ true → stands (tree_of h.sound.pool c.tree) c ≡ false → Remains c ws us r d (Err NoPlace)
  no_place_moves h o n = remains_by h.sound (move-refused v c h.sound.pool NoPlace ((move_three v c h.sound.pool h.there).1 (o, n)))

  -- A move that is not refused
  module _ (s : Sound m ws) (there : c.tree < length s.pool.trees) (e : blocked v c s.pool ≡ none) where
    -- what it leaves: the pool and the cursor
    abbrev q : Pool
    q = (move v c s.pool).pool

    abbrev z : Cursor
    z = (move v c s.pool).cursor

    -- the cursor is of the same tree, it stands, and it is whole
    of_tree : z.tree ≡ c.tree
    unfolding move_from
    of_tree = ap (λ u. u.cursor.tree) (move-done v c s.pool e)

    stood : stands (tree_of q c.tree) z ≡ true
    stood =
        let w : WellFormed m q = move_formed m lo hi v c s.pool s.formed in
        stands_yes m (tree_of q c.tree) z (good_at m q.trees c.tree w.good) (omega (arith, six_levels m q c.tree w)) (moved-stands m lo hi v c s.pool s.formed e)

    whole : Whole z
    whole =
        let n = moved-stands m lo hi v c s.pool s.formed e in
        subst Whole n.same (whole_at z.tree (path_of (tree_of q c.tree) n.spot))

    -- so it stands where the move comes to
    comes : {a : Reply} {x : Spot} {xs : List Item} {i : ℕ} {o : Option Item} → MovesTo (move v c s.pool) a x →
        pairs (tree_of q c.tree) ≡ xs → position (leaves (tree_of q c.tree)) x ≡ i → pair_at (leaves (tree_of q c.tree)) x ≡ o → Comes m c us d xs i o
    comes {xs = xs} {i = i} {o = o} g l b n =
        subst (λ (u : Cursor). Comes m c us u xs i o) (handed s) (record {
          tree = of_tree;
          whole = whole;
          stood = record {
            holds = record { sound = after-move s; there = rw (move-trees v c s.pool, of_tree) there; same = rw of_tree l };
            standing = subst (λ (u : ℕ). stands (tree_of q u) z ≡ true) (sym of_tree) stood;
            before = rw (g.spot, of_tree) b;
            pair = rw (g.spot, of_tree) n;
          };
        })

    -- off the end it has size 0
    ends : {a : Reply} {x : Spot} → MovesTo (move v c s.pool) a x → x ≡ off → d.size ≡ 0
    ends g x =
        let y : spot_of (tree_of q c.tree) (path_in z) ≡ off = subst (λ (u : ℕ). spot_of (tree_of q u) (path_in z) ≡ off) of_tree (g.spot ∙ x) in
        ap (λ (u : Cursor). u.size) (sym (handed s)) ∙ off_size (tree_of q c.tree) z whole stood y

    -- any move but a remove
    module _ (n : v ≢ to_remove) where
      unchanged : q ≡ s.pool
      unchanged = move-reads m lo hi v c s.pool n

      same_words : us ≡ ws
      same_words = moves_same m k s unchanged

      -- to a spot
      comes-to : {a : Reply} {x : Spot} {i : ℕ} {o : Option Item} → MovesTo (move v c s.pool) a x →
          position (row s.pool c) x ≡ i → pair_at (row s.pool c) x ≡ o → Comes m c us d (list s.pool c) i o
      comes-to g b y = comes g (rw unchanged) (rw unchanged b) (rw unchanged y)

      -- to the j-th pair
      goes-place : {a : Reply} {j : ℕ} → j ≤ length (list s.pool c) → MovesTo (move v c s.pool) a (spot_at (row s.pool c) j) →
          Arrives m c ws us r d a (list s.pool c) j (get_elem? (list s.pool c) j)
      goes-place {j = j} h g = record {
        words = same_words;
        answer = sym (answered s) ∙ g.answers;
        comes = comes-to g (place-rank (tree_of s.pool c.tree) j h) (place_pair (tree_of s.pool c.tree) j);
        ended = λ l. ends g (place_off (tree_of s.pool c.tree) j l);
      }

      -- to where it was
      remains-at : Whole c → stands (tree_of s.pool c.tree) c ≡ true → {a : Reply} → MovesTo (move v c s.pool) a (spot_in s.pool c) → Remains c ws us r d a
      remains-at w y g =
          let p = s.pool in
          let x : spot_of (tree_of p c.tree) (path_in z) ≡ spot_in p c = subst (λ (u : ℕ). spot_of (tree_of p u) (path_in z) ≡ spot_in p c) of_tree (subst (λ (u : Pool). spot_in u z ≡ spot_in p c) unchanged g.spot) in
          let o : stands (tree_of p c.tree) z ≡ true = subst (λ (u : Pool). stands (tree_of u c.tree) z ≡ true) unchanged stood in
          record {
            words = same_words;
            answer = sym (answered s) ∙ g.answers;
            cursor = sym (handed s) ∙ one_cursor (tree_of p c.tree) c z w whole of_tree y o x;
          }

-- a move that is refused changes neither word nor cursor, whatever the words
pub move_struck : {v : Move} {c d : Cursor} {ws us : List ℕ} {r : Reply} → Moves leaf_least v c ws us r d → kept r ≡ false → Remains c ws us r d r
move_struck {v} {c} {ws = ws} k e = elim (decide ws) [
  | sound s ↦ elim (verdict (blocked v c s.pool)) [
    | passes f ↦ absurd (true≢false (sym (done-kept v c s.pool f) ∙ ap kept (answered leaf_least (omega arith) (omega arith) k s) ∙ e))
    | stops x f ↦
        let n = remains_by leaf_least (omega arith) (omega arith) k s (move-refused v c s.pool x f) in
        record { words = n.words; answer = refl; cursor = n.cursor }
  ]
  | unsound n ↦ record { words = k.unsound_words n; answer = refl; cursor = k.unsound_cursor n }
]

-- A cursor that stands

module _ (m : ℕ) (lo : 1 ≤ m) {c : Cursor} {ws : List ℕ} {xs : List Item} {i : ℕ} where
  -- on a pair: the spot is that of the place
  back_there : {y : Item} (s : StandsAt m ws c xs i (some y)) → spot_at (row s.holds.sound.pool c) (rank s.holds.sound.pool c) ≡ spot_in s.holds.sound.pool c
  back_there {y} s =
      let p = s.holds.sound.pool in
      spot_back m (tree_of p c.tree) (spot_in p c) y lo (good_at m p.trees c.tree s.holds.sound.formed.good) (stands-fits (tree_of p c.tree) c s.standing) s.pair

  -- and the pair is the one of the place in the list
  pub pair_place : {y : Item} → StandsAt m ws c xs i (some y) → get_elem? xs i ≡ some y
  pair_place s =
      let p = s.holds.sound.pool in
      rw (← s.holds.same, ← s.before) (sym (place_pair (tree_of p c.tree) (rank p c)) ∙ ap (pair_at (row p c)) (back_there s) ∙ s.pair)

  module _ {o : Option Item} (s : StandsAt m ws c xs i o) where
    -- no move is refused
    free : (v : Move) → blocked v c s.holds.sound.pool ≡ none
    free v = move_free v c s.holds.sound.pool s.holds.there (λ z. s.standing)

    -- off the end it is at the place behind all pairs
    at-end : c.size ≡ 0 → spot_at (row s.holds.sound.pool c) (rank s.holds.sound.pool c) ≡ spot_in s.holds.sound.pool c
    at-end z =
        let p = s.holds.sound.pool in
        rw (size_off (tree_of p c.tree) c z)
        (place_off (tree_of p c.tree) _ (omega (arith, sum-sizes (leaves (tree_of p c.tree)) ∙ ap length (leaves-joined (tree_of p c.tree)))))

    -- no more pairs come before it than there are
    few : rank s.holds.sound.pool c ≤ length (list s.holds.sound.pool c)
    few = let p = s.holds.sound.pool in position_le (tree_of p c.tree) (spot_in p c) (stands-fits (tree_of p c.tree) c s.standing)

-- The calls

module _ (m : ℕ) (lo : 1 ≤ m) (hi : m ≤ 4) {c d : Cursor} {ws us : List ℕ} {r : Reply} {xs : List Item} where
  -- first: the least pair
  pub first_holds : Moves m to_first c ws us r d → HoldsPairs m ws c.tree xs → Arrives m c ws us r d (told (get_elem? xs 0)) xs 0 (get_elem? xs 0)
  first_holds k h =
      let p = h.sound.pool in
      let e : blocked to_first c h.sound.pool ≡ none = move_free to_first c p h.there (λ r. absurd (true≢false (sym r))) in
      rw (← h.same) (goes-place m lo hi k h.sound h.there e (λ z. true≢false (cc)) (omega arith) (first_goes m lo hi p h.sound.formed c e))

  -- seek: the value held, and the place of the key
  pub seek_holds : {x : ℕ} → Moves m (to_key x) c ws us r d → HoldsPairs m ws c.tree xs → Seeks m x c ws us r d xs
  seek_holds {x} k h =
      let p = h.sound.pool in
      let t = tree_of h.sound.pool c.tree in
      let g : Good m leaf_cap t = good_at m p.trees c.tree h.sound.formed.good in
      let e : blocked (to_key x) c h.sound.pool ≡ none = move_free (to_key x) c p h.there (λ r. absurd (true≢false (sym r))) in
      rw (← h.same) (record {
        words = same_words m lo hi k h.sound h.there e (λ z. true≢false (cc));
        answer = sym (answered m lo hi k h.sound) ∙ (seek-goes m lo hi p h.sound.formed c x e).answers;
        on = pair_at (leaves t) (seek x (leaves t));
        comes = comes-to m lo hi k h.sound h.there e (λ z. true≢false (cc)) (seek-goes m lo hi p h.sound.formed c x e) (seek-rank m x t lo g) refl;
        found = λ v q. seek_found m x v t lo g q;
      })

  -- prev with no pair before it: it stays
  pub prev_stays : {o : Option Item} → Moves m to_prev c ws us r d → StandsAt m ws c xs 0 o → Whole c → Remains c ws us r d nothing
  prev_stays k s w =
      let h = s.holds in
      let e = free m lo s to_prev in
      remains-at m lo hi k h.sound h.there e (λ z. true≢false (cc)) w s.standing (prev-first-goes m lo hi h.sound.pool h.sound.formed c e s.before)

  module _ {i : ℕ} where
    -- settle: the pair whose place the cursor has
    pub settle_holds : {o : Option Item} → Moves m to_settled c ws us r d → StandsAt m ws c xs i o → Arrives m c ws us r d nothing xs i (get_elem? xs i)
    settle_holds k s =
        let h = s.holds in
        let e = free m lo s to_settled in
        rw (← h.same, ← s.before) (goes-place m lo hi k h.sound h.there e (λ z. true≢false (cc)) (few m lo s) (settle_goes m lo hi h.sound.pool h.sound.formed c e))

    -- on a pair it stays
    pub settle_stays : {y : Item} → Moves m to_settled c ws us r d → StandsAt m ws c xs i (some y) → Whole c → Remains c ws us r d nothing
    settle_stays k s w =
        let h = s.holds in
        let e = free m lo s to_settled in
        let g = settle_goes m lo hi h.sound.pool h.sound.formed c e in
        remains-at m lo hi k h.sound h.there e (λ z. true≢false (cc)) w s.standing (record { answers = g.answers; spot = g.spot ∙ back_there m lo s })

    -- next: from a pair the one after it
    pub next_holds : {y : Item} → Moves m to_next c ws us r d → StandsAt m ws c xs i (some y) → Arrives m c ws us r d (told (get_elem? xs (suc i))) xs (suc i) (get_elem? xs (suc i))
    next_holds {y} k s =
        let h = s.holds in
        let e = free m lo s to_next in
        let l : suc (rank h.sound.pool c) ≤ length (list h.sound.pool c) = rw (s.before, h.same) (nth_lt xs i y (pair_place m lo s)) in
        rw (← h.same, ← s.before) (goes-place m lo hi k h.sound h.there e (λ z. true≢false (cc)) l (next-goes m lo hi h.sound.pool h.sound.formed c y e s.pair))

    -- from no pair the one whose place the cursor has
    pub next_past_holds : Moves m to_next c ws us r d → StandsAt m ws c xs i none → Arrives m c ws us r d (told (get_elem? xs i)) xs i (get_elem? xs i)
    next_past_holds k s =
        let h = s.holds in
        let e = free m lo s to_next in
        rw (← h.same, ← s.before) (goes-place m lo hi k h.sound h.there e (λ z. true≢false (cc)) (few m lo s) (next_past_goes m lo hi h.sound.pool h.sound.formed c e s.pair))

    -- prev: the pair before the place
    pub prev_holds : {o : Option Item} → Moves m to_prev c ws us r d → StandsAt m ws c xs (suc i) o → Arrives m c ws us r d (told (get_elem? xs i)) xs i (get_elem? xs i)
    prev_holds k s =
        let h = s.holds in
        let p = h.sound.pool in
        let e = free m lo s to_prev in
        let b : rank p c ≡ suc i = s.before in
        let g = prev-goes m lo hi p h.sound.formed c e (omega arith) in
        let j : rank p c - 1 ≡ i = omega arith in
        let l = few m lo s in
        rw (← h.same, ← j) (goes-place m lo hi k h.sound h.there e (λ z. true≢false (cc)) (omega arith) g)

    -- remove: the pair goes
    pub remove_at_holds : {y : Item} → Moves m to_remove c ws us r d → StandsAt m ws c xs i (some y) → TakesOut m c us r d xs i y
    remove_at_holds {y} k s =
        let h = s.holds in
        let p = h.sound.pool in
        let e = free m lo s to_remove in
        let g = remove_goes m lo hi p h.sound.formed c y e s.pair in
        let l : rank p c < length (list p c) = rw (s.before, h.same) (nth_lt xs i y (pair_place m lo s)) in
        let f : rank p c ≤ length (pairs (tree_of (move to_remove c p).pool c.tree)) = rw g.left (omega (arith, length-remove_at (rank p c) (list p c) l)) in
        rw (← h.same, ← s.before) (record {
          answer = sym (answered m lo hi k h.sound) ∙ g.value;
          holds = record { sound = after-move m lo hi k h.sound; there = rw (move-trees to_remove c p) h.there; same = g.left };
          comes =
              comes m lo hi k h.sound h.there e (record { answers = g.value; spot = g.comes })
              g.left (place-rank (tree_of (move to_remove c p).pool c.tree) (rank p c) f) g.on_next;
          ended = λ n.
              ends m lo hi k h.sound h.there e (record { answers = g.value; spot = g.comes })
              (place_off (tree_of (move to_remove c p).pool c.tree) (rank p c) (rw g.left (omega (arith, length-remove_at (rank p c) (list p c) l))));
        })

    -- at size 0 settle and next leave it, and tell none
    module _ {o : Option Item} (s : StandsAt m ws c xs i o) (z : c.size ≡ 0) (w : Whole c) where
      pub settle_off : Moves m to_settled c ws us r d → Remains c ws us r d nothing
      settle_off k =
          let h = s.holds in
          let e = free m lo s to_settled in
          let g = settle_goes m lo hi h.sound.pool h.sound.formed c e in
          remains-at m lo hi k h.sound h.there e (λ z. true≢false (cc)) w s.standing (record { answers = g.answers; spot = g.spot ∙ at-end m lo s z })

      pub next_off : Moves m to_next c ws us r d → Remains c ws us r d nothing
      next_off k =
          let h = s.holds in
          let p = h.sound.pool in
          let e = free m lo s to_next in
          let n : pair_at (row p c) (spot_in p c) ≡ none = rw (size_off (tree_of p c.tree) c z) in
          let g = next_past_goes m lo hi p h.sound.formed c e n in
          let t : told (get_elem? (list p c) (rank p c)) ≡ nothing = ap told (sym (place_pair (tree_of p c.tree) (rank p c)) ∙ ap (pair_at (row p c)) (at-end m lo s z) ∙ n) in
          remains-at m lo hi k h.sound h.there e (λ z. true≢false (cc)) w s.standing (record { answers = g.answers ∙ t; spot = g.spot ∙ at-end m lo s z })

    -- on no pair nothing does
    pub remove_stays : Moves m to_remove c ws us r d → StandsAt m ws c xs i none → Whole c → Remains c ws us r d nothing
    remove_stays k s w =
        let h = s.holds in
        remains_by m lo hi k h.sound (remove_none m lo hi h.sound.pool h.sound.formed c w.nodes w.places (free m lo s to_remove) s.pair)
