-- PROOFS. What the functions on paths do keeps the promises of the public calls
use mathlib.Core.Path.{◌≡◌, refl, sym, ap, ◌∙◌}
use mathlib.Core.List.{List, []}
use mathlib.Core.Bool.{Bool, true, false}
use mathlib.Core.Option.{Option, none, some}
use Prim.Native.Nat.{ℕ, ◌≤◌, ◌<◌}
use native.Mathlib.Omega.{arith}
use lib.ListN.{length, get_or}
use lib.Seq.{set-get_or}
use borrow.Author.Tests.{lt-leb}
use Rattle.std.specs.Prelude.{Ok, Err}
use Rattle.std.specs.Prelude as rust
use Rattle.forest.specs.Sizes.{leaf_least, most_levels}
use Rattle.forest.specs.Rows.{Row, Tree, Good}
use Rattle.forest.specs.Trees.{get_tree}
use Rattle.forest.specs.Pools.{Pool, WellFormed, Sound, encode, tree_of, Call, target, get, call, gate, refused, done}
use Rattle.forest.specs.Cursors.{Spot, Fits, pair_at, leaves, first, seek, settle, next, path_of, cursor_at, spot_of, path_in, stands, Move, to_first, to_key, to_next, to_prev, to_settled, tells, reads, left_pool, left_spot, blocked, move_from, move}
use Rattle.forest.specs.Answers.{told, held, Reply, nothing}
use Rattle.forest.specs.Promises.{Calls, Moves}
use Rattle.forest.specs.declared.Cursor.{Cursor}
use Rattle.forest.specs.declared.Hit.{Hit}
use Rattle.forest.specs.declared.Moved.{Moved}
use Rattle.forest.specs.declared.Refusal.{Refusal}
use Rattle.forest.specs.declared.Refusal.TheVariants.{NoPlace}
use Rattle.forest.proofs.PoolLaws.{good_at, call-refused, call-done, call_free}
use Rattle.forest.proofs.WordLaws.{first_word}
use Rattle.forest.proofs.Six.{six_levels}
use Rattle.forest.proofs.CursorLaws.{spot_path}
use Rattle.forest.proofs.StandLaws.{path_in_lem, length_path, stands_yes, yes_stands}
use Rattle.forest.proofs.CursorCalls.{move-refused, move-done, fits_next, fits_start}
use Rattle.path.specs.Cores.{Ready, Of, At, Standing, Goes, Sees, look_of, Look}
use Rattle.path.proofs.Roots.{trees_are}
use Rattle.path.proofs.Made.{fits-seek, gone_tree, gone_at}
use Rattle.stand.specs.Runs.{Tells}
use Rattle.moves.specs.Moves.{Steps, Seen, Back}
use Rattle.moves.proofs.Moving.{moved_tree, moved_at}
use Rattle.map.specs.Gates.{held_at}
use Rattle.map.proofs.Values.{held_tree}

-- the trees of a pool, by its words
pub trees_of : (ws : List ℕ) (p : Pool) → Of ws p → get_or ws 0 0 ≡ length p.trees
trees_of ws p o = ap (λ (u : List ℕ). get_or u 0 0) (sym o.same) ∙ first_word p

pub of : (ws : List ℕ) (p : Pool) → WellFormed leaf_least p → encode p ≡ ws → Of ws p
of ws p w e = record { formed = w; same = e }

-- Refusals

pub refused_moves : (v : Move) (c : Cursor) (ws : List ℕ) (x : Refusal) → Sound leaf_least ws → ((p : Pool) → Of ws p → blocked v c p ≡ some x) → Moves leaf_least v c ws ws (Err x) c
refused_moves v c ws x s f =
    let r : (p : Pool) → Of ws p → move v c p ≡ record { answer = Err x; cursor = c; pool = p } = λ p o. move-refused v c p x (f p o) in
    record {
      sound_words = λ p w b. ap (λ d. encode d.pool) (r p (of ws p w b)) ∙ b;
      sound_answer = λ p w b. ap (λ d. d.answer) (r p (of ws p w b));
      sound_cursor = λ p w b. ap (λ d. d.cursor) (r p (of ws p w b));
      unsound_words = λ k. absurd (k s);
      unsound_answer = λ k. absurd (k s);
      unsound_cursor = λ k. absurd (k s);
    }

pub gated_moves : (v : Move) (c : Cursor) (ws : List ℕ) (x : Refusal) → Sound leaf_least ws → ((p : Pool) → Of ws p → (rest : Option Refusal) → gate p c.tree rest ≡ some x) →
    Moves leaf_least v c ws ws (Err x) c
unfolding blocked
gated_moves v c ws x s f = refused_moves v c ws x s (λ p o. f p o _)

pub blocked-place : (v : Move) (c : Cursor) (p : Pool) → c.tree < length p.trees → reads v ≡ true → stands (tree_of p c.tree) c ≡ false → blocked v c p ≡ some NoPlace
unfolding blocked
blocked-place v c p h r s = simp (lt-leb (length p.trees) c.tree h, r, s)

free_tree : (v : Move) (c : Cursor) (p : Pool) → c.tree < length p.trees → reads v ≡ false → blocked v c p ≡ none
unfolding blocked
free_tree v c p h r = simp (lt-leb (length p.trees) c.tree h, r)

free_place : (v : Move) (c : Cursor) (p : Pool) → c.tree < length p.trees → reads v ≡ true → stands (tree_of p c.tree) c ≡ true → blocked v c p ≡ none
unfolding blocked
free_place v c p h r s = simp (lt-leb (length p.trees) c.tree h, r, s)

-- Standing, from the test

pub stands-standing : (ws : List ℕ) (c : Cursor) (r : Bool) → length c.nodes ≡ 16 → length c.places ≡ 16 → Tells ws c r → r ≡ true → Standing ws c
stands-standing ws c r ln lp x e = record { stand = λ p o. yes_stands (tree_of p c.tree) c ln lp (sym (x.tells p o) ∙ e) }

module _ (ws : List ℕ) (c : Cursor) (d : Standing ws c) (p : Pool) (o : Of ws p) where
  standing_yes : stands (tree_of p c.tree) c ≡ true
  standing_yes =
      stands_yes leaf_least (tree_of p c.tree) c (good_at leaf_least p.trees c.tree o.formed.good) (omega (arith, six_levels leaf_least p c.tree o.formed)) (d.stand p o)

  -- the spot that the definition reads off the cursor
  own_spot : spot_of (tree_of p c.tree) (path_in c) ≡ (d.stand p o).spot
  own_spot =
      let s = d.stand p o in
      let few : length (path_of (tree_of p c.tree) s.spot) ≤ most_levels = omega (arith, length_path (tree_of p c.tree) s.spot, six_levels leaf_least p c.tree o.formed) in
      let e : path_in c ≡ path_of (tree_of p c.tree) s.spot = ap path_in (sym s.same) ∙ path_in_lem c.tree (path_of (tree_of p c.tree) s.spot) few in
      ap (spot_of (tree_of p c.tree)) e ∙ spot_path leaf_least (tree_of p c.tree) s.spot (good_at leaf_least p.trees c.tree o.formed.good) s.fits

  pub own_at : At p c (spot_of (tree_of p c.tree) (path_in c))
  own_at = rw own_spot (record { fits = (d.stand p o).fits; same = (d.stand p o).same })

-- Moves that are done

module _ (v : Move) (still : (t : ℕ) (s : Spot) (p : Pool) → left_pool v t s p ≡ p) (c d : Cursor) (ws : List ℕ) (r : Reply) (s : Sound leaf_least ws)
    (free : (p : Pool) → Of ws p → blocked v c p ≡ none)
    (answers : (p : Pool) → Of ws p → tells v (tree_of p c.tree) (spot_of (tree_of p c.tree) (path_in c)) ≡ r)
    (goes : (p : Pool) → Of ws p →
    cursor_at c.tree (path_of (tree_of p c.tree) (left_spot v (leaves (tree_of p c.tree)) (leaves (tree_of p c.tree)) (spot_of (tree_of p c.tree) (path_in c)))) ≡ d) where
  pub moves_done : Moves leaf_least v c ws ws r d
  unfolding move_from
  moves_done = record {
    sound_words = λ p w b. rw (move-done v c p (free p (of ws p w b)), still) b;
    sound_answer = λ p w b. rw (move-done v c p (free p (of ws p w b))) (answers p (of ws p w b));
    sound_cursor = λ p w b. rw (move-done v c p (free p (of ws p w b)), still) (goes p (of ws p w b));
    unsound_words = λ k. absurd (k s);
    unsound_answer = λ k. absurd (k s);
    unsound_cursor = λ k. absurd (k s);
  }

-- a tree number that is there
module _ (ws : List ℕ) (t tree : ℕ) (y : Ready ws t tree) (p : Pool) (o : Of ws p) where
  pub tree_there : tree < length p.trees
  tree_there = omega (arith, y.there, trees_are ws t tree y p o)

-- The calls

module _ (ws : List ℕ) (t : ℕ) (c : Cursor) (y : Ready ws t c.tree) where
  -- what a look at a cursor says that find or first has made
  module _ (f : Row → Spot) (keeps : (x : Tree) → Good leaf_least 7 x → Fits (leaves x) (f (leaves x))) (d : Cursor) (g : Goes f ws c.tree d) where
    gone-pair : (r : Moved) → Seen ws d r → (p : Pool) → Of ws p → told (pair_at (leaves (tree_of p c.tree)) (f (leaves (tree_of p c.tree)))) ≡ r.reply
    gone-pair r x p o =
        ap (λ (n : ℕ). told (pair_at (leaves (tree_of p n)) (f (leaves (tree_of p c.tree))))) (sym (gone_tree f keeps ws t c.tree d y g)) ∙
        sym (x.pair p (f (leaves (tree_of p c.tree))) o (gone_at f keeps ws t c.tree d y g p o))

    gone-look : (l : Look) → Sees ws d l → (p : Pool) → Of ws p → l ≡ look_of (pair_at (leaves (tree_of p c.tree)) (f (leaves (tree_of p c.tree))))
    gone-look l x p o =
        x.sees p (f (leaves (tree_of p c.tree))) o (gone_at f keeps ws t c.tree d y g p o) ∙
        ap (λ (n : ℕ). look_of (pair_at (leaves (tree_of p n)) (f (leaves (tree_of p c.tree))))) (gone_tree f keeps ws t c.tree d y g)

  pub first_moves : (d : Cursor) (r : Moved) → Goes first ws c.tree d → Seen ws d r → Moves leaf_least to_first c ws ws r.reply r.cursor
  first_moves d r g x =
      moves_done to_first (λ t s p. refl) c r.cursor ws r.reply y.sound
      (λ p o. free_tree to_first c p (tree_there ws t c.tree y p o) refl)
      (λ p o. gone-pair first (λ x k. fits_start (leaves x) 0) d g r x p o)
      (λ p o. sym (x.cursor ∙ g.to p o))

  pub seek-held : (k : ℕ) (d : Cursor) (l : Look) (r : rust.Option Hit) → Goes (seek k) ws c.tree d → Sees ws d l → r ≡ held_at l k → (p : Pool) → Of ws p → held (get_tree k (tree_of p c.tree)) ≡ Ok r
  seek-held k d l r g x e p o =
      sym (held_tree k (tree_of p c.tree) (good_at leaf_least p.trees c.tree o.formed.good)) ∙
      ap (λ (u : Look). Ok (held_at u k)) (sym (gone-look (seek k) (fits-seek k) d g l x p o)) ∙ ap Ok (sym e)

  pub seek_moves : (k : ℕ) (d : Cursor) (l : Look) (r : rust.Option Hit) → Goes (seek k) ws c.tree d → Sees ws d l → r ≡ held_at l k → Moves leaf_least (to_key k) c ws ws (Ok r) d
  seek_moves k d l r g x e =
      moves_done (to_key k) (λ t s p. refl) c d ws (Ok r) y.sound
      (λ p o. free_tree (to_key k) c p (tree_there ws t c.tree y p o) refl)
      (seek-held k d l r g x e)
      (λ p o. sym (g.to p o))

  module _ (z : Standing ws c) where
    pub free_reads : (v : Move) → reads v ≡ true → (p : Pool) → Of ws p → blocked v c p ≡ none
    free_reads v q p o = free_place v c p (tree_there ws t c.tree y p o) q (standing_yes ws c z p o)

    pub next_moves : (d : Cursor) (r : Moved) → Steps next ws c d → Seen ws d r → Moves leaf_least to_next c ws ws r.reply r.cursor
    next_moves d r g x =
        moves_done to_next (λ t s p. refl) c r.cursor ws r.reply y.sound
        (free_reads to_next refl)
        (λ p o.
        let s = spot_of (tree_of p c.tree) (path_in c) in
        let a = own_at ws c z p o in
        ap (λ (n : ℕ). told (pair_at (leaves (tree_of p n)) (next (leaves (tree_of p c.tree)) (spot_of (tree_of p c.tree) (path_in c))))) (sym (moved_tree next fits_next ws c d g p (spot_of (tree_of p c.tree) (path_in c)) o a)) ∙
        sym (x.pair p (next (leaves (tree_of p c.tree)) (spot_of (tree_of p c.tree) (path_in c))) o (moved_at next fits_next ws c d g p (spot_of (tree_of p c.tree) (path_in c)) o a)))
        (λ p o. sym (x.cursor ∙ g.to p (spot_of (tree_of p c.tree) (path_in c)) o (own_at ws c z p o)))

    pub prev_moves : (r : Moved) → Back ws c r → Moves leaf_least to_prev c ws ws r.reply r.cursor
    prev_moves r x =
        moves_done to_prev (λ t s p. refl) c r.cursor ws r.reply y.sound
        (free_reads to_prev refl)
        (λ p o. sym (x.pair p (spot_of (tree_of p c.tree) (path_in c)) o (own_at ws c z p o)))
        (λ p o. sym (x.cursor.to p (spot_of (tree_of p c.tree) (path_in c)) o (own_at ws c z p o)))

    pub settle_moves : (d : Cursor) → Steps settle ws c d → Moves leaf_least to_settled c ws ws nothing d
    settle_moves d g =
        moves_done to_settled (λ t s p. refl) c d ws nothing y.sound
        (free_reads to_settled refl)
        (λ p o. refl)
        (λ p o. sym (g.to p (spot_of (tree_of p c.tree) (path_in c)) o (own_at ws c z p o)))

-- Calls by key: the first refusals

pub gated_calls : (c : Call) (ws : List ℕ) (x : Refusal) → Sound leaf_least ws → ((p : Pool) → Of ws p → (rest : Option Refusal) → gate p (target c) rest ≡ some x) →
    Calls leaf_least c ws ws (Err x)
unfolding refused
gated_calls c ws x s f =
    let r : (p : Pool) → Of ws p → call c p ≡ record { answer = Err x; pool = p } = λ p o. call-refused c p x (f p o _) in
    record {
      sound_words = λ p w e. ap (λ d. encode d.pool) (r p (of ws p w e)) ∙ e;
      sound_answer = λ p w e. ap (λ d. d.answer) (r p (of ws p w e));
      unsound_words = λ n. absurd (n s);
      unsound_answer = λ n. absurd (n s);
    }

get_still : (tree k : ℕ) (p : Pool) → done (get tree k) p ≡ p
unfolding done
get_still tree k p = let e = set-get_or p.trees tree [] in λ i. record { trees = e i; count = p.count; free = p.free }

pub get_calls : (ws : List ℕ) (t tree k : ℕ) → Ready ws t tree → (d : Cursor) (l : Look) (r : rust.Option Hit) → Goes (seek k) ws tree d → Sees ws d l → r ≡ held_at l k →
    Calls leaf_least (get tree k) ws ws (Ok r)
get_calls ws t tree k y d l r g x e =
    let z : (p : Pool) → Of ws p → call (get tree k) p ≡ record { answer = held (get_tree k (tree_of p tree)); pool = done (get tree k) p } =
    λ p o. call-done (get tree k) p (call_free (get tree k) p (record { there = tree_there ws t tree y p o; enough = omega arith })) in
    record {
      sound_words = λ p w b. ap (λ c. encode c.pool) (z p (of ws p w b)) ∙ ap encode (get_still tree k p) ∙ b;
      sound_answer = λ p w b. ap (λ c. c.answer) (z p (of ws p w b)) ∙ seek-held ws t (cursor_at tree []) y k d l r g x e p (of ws p w b);
      unsound_words = λ n. absurd (n y.sound);
      unsound_answer = λ n. absurd (n y.sound);
    }
