-- PROOF. Written by data/recorded-antt from data/short-runs.txt, the short runs that the crate itself was asked: the definitions give the answers, the
-- cursors and the whole words that it gave, as one list under one claim, computed
use mathlib.Core.Path.{◌≡◌, refl}
use mathlib.Core.List.{List, [], ◌∷◌, ◌++◌}
use mathlib.Core.Bool.{true}
use Rattle.forest.specs.Pools.{put, remove, get}
use Rattle.forest.specs.Cursors.{to_first, to_key, to_next, to_prev, to_settled, to_remove}
use Rattle.forest.proofs.Trials.{Trial, AllHold, agree, holds, steps}
use Rattle.forest.proofs.Plays.{ask, go, look, play, no, value, pair}

-- leaf split, entry goes left; leaf split, entry goes right; new root
pub leaf_splits_left_and_right : Trial
leaf_splits_left_and_right = record {
  seen = play 1 5 (
      ask (put 0 10 1010) ∷ ask (put 0 20 1020) ∷ ask (put 0 30 1030) ∷ ask (put 0 40 1040) ∷ ask (put 0 50 1050) ∷ ask (put 0 60 1060) ∷ ask (put 0 70 1070) ∷ ask (put 0 15 1015) ∷
      ask (put 0 80 1080) ∷ ask (put 0 90 1090) ∷ ask (put 0 100 1100) ∷ ask (put 0 95 1095) ∷ ask (get 0 15) ∷ ask (get 0 95) ∷ ask (get 0 96) ∷ look ∷ []);
  said =
      no ∷ no ∷ no ∷ no ∷ no ∷ no ∷ no ∷ no ∷ no ∷ no ∷ no ∷ no ∷ (value 1015) ∷ (value 1095) ∷ no ∷
      (1 ∷ 3 ∷ 5 ∷ 36 ∷ 10 ∷ 15 ∷ 20 ∷ 30 ∷ 0 ∷ 0 ∷ 0 ∷ 1010 ∷ 1015 ∷ 1020 ∷ 1030 ∷ 0 ∷ 0 ∷ 0 ∷ 0 ∷ 36 ∷ 40 ∷ 50 ∷ 60 ∷ 70 ∷ 0 ∷ 0 ∷ 0 ∷ 1040 ∷ 1050 ∷
      1060 ∷ 1070 ∷ 0 ∷ 0 ∷ 0 ∷ 0 ∷ 18 ∷ 40 ∷ 80 ∷ 0 ∷ 0 ∷ 0 ∷ 0 ∷ 0 ∷ 1 ∷ 2 ∷ 4 ∷ 0 ∷ 0 ∷ 0 ∷ 0 ∷ 0 ∷ 36 ∷ 80 ∷ 90 ∷ 95 ∷ 100 ∷ 0 ∷ 0 ∷ 0 ∷ 1080 ∷
      1090 ∷ 1095 ∷ 1100 ∷ 0 ∷ 0 ∷ 0 ∷ 0 ∷ 0 ∷ 0 ∷ 0 ∷ 0 ∷ 0 ∷ 0 ∷ 0 ∷ 0 ∷ 0 ∷ 0 ∷ 0 ∷ 0 ∷ 0 ∷ 0 ∷ 0 ∷ 0 ∷ 1 ∷ 5 ∷ 0 ∷ 0 ∷ 0 ∷ 0 ∷ []) ∷ [];
}

leaf_splits_left_and_right_agrees : agree leaf_splits_left_and_right ≡ true
unfolding steps leaf_splits_left_and_right
leaf_splits_left_and_right_agrees = refl

-- leaf split, entry first on the right; new root; front key's separator one level up; small right-most leaf stays
pub first_on_the_right_and_a_walk : Trial
first_on_the_right_and_a_walk = record {
  seen = play 1 3 (
      ask (put 0 10 1010) ∷ ask (put 0 20 1020) ∷ ask (put 0 30 1030) ∷ ask (put 0 40 1040) ∷ ask (put 0 50 1050) ∷ ask (put 0 60 1060) ∷ ask (put 0 70 1070) ∷ ask (put 0 45 1045) ∷ go 0 to_first ∷
      go 0 to_next ∷ go 0 to_next ∷ go 0 to_next ∷ go 0 to_next ∷ go 0 to_prev ∷ go 0 to_prev ∷ go 0 (to_key 42) ∷ go 0 to_settled ∷ go 0 to_remove ∷ go 0 to_prev ∷ look ∷ []);
  said =
      no ∷ no ∷ no ∷ no ∷ no ∷ no ∷ no ∷ no ∷ (pair 10 1010 ++ (2 ∷ 3 ∷ 0 ∷ 1 ∷ 0 ∷ [])) ∷ (pair 20 1020 ++ (2 ∷ 3 ∷ 0 ∷ 1 ∷ 1 ∷ [])) ∷
      (pair 30 1030 ++ (2 ∷ 3 ∷ 0 ∷ 1 ∷ 2 ∷ [])) ∷ (pair 40 1040 ++ (2 ∷ 3 ∷ 0 ∷ 1 ∷ 3 ∷ [])) ∷ (pair 45 1045 ++ (2 ∷ 3 ∷ 1 ∷ 2 ∷ 0 ∷ [])) ∷
      (pair 40 1040 ++ (2 ∷ 3 ∷ 0 ∷ 1 ∷ 3 ∷ [])) ∷ (pair 30 1030 ++ (2 ∷ 3 ∷ 0 ∷ 1 ∷ 2 ∷ [])) ∷ (no ++ (2 ∷ 3 ∷ 0 ∷ 1 ∷ 4 ∷ [])) ∷ (no ++ (2 ∷ 3 ∷ 1 ∷ 2 ∷ 0 ∷ [])) ∷
      (value 1045 ++ (2 ∷ 3 ∷ 1 ∷ 2 ∷ 0 ∷ [])) ∷ (pair 40 1040 ++ (2 ∷ 3 ∷ 0 ∷ 1 ∷ 3 ∷ [])) ∷
      (1 ∷ 3 ∷ 3 ∷ 36 ∷ 10 ∷ 20 ∷ 30 ∷ 40 ∷ 0 ∷ 0 ∷ 0 ∷ 1010 ∷ 1020 ∷ 1030 ∷ 1040 ∷ 0 ∷ 0 ∷ 0 ∷ 0 ∷ 35 ∷ 50 ∷ 60 ∷ 70 ∷ 0 ∷ 0 ∷ 0 ∷ 0 ∷ 1050 ∷ 1060 ∷
      1070 ∷ 0 ∷ 0 ∷ 0 ∷ 0 ∷ 0 ∷ 17 ∷ 50 ∷ 0 ∷ 0 ∷ 0 ∷ 0 ∷ 0 ∷ 0 ∷ 1 ∷ 2 ∷ 0 ∷ 0 ∷ 0 ∷ 0 ∷ 0 ∷ 0 ∷ 0 ∷ 0 ∷ 0 ∷ 0 ∷ []) ∷ [];
}

first_on_the_right_and_a_walk_agrees : agree first_on_the_right_and_a_walk ≡ true
unfolding steps first_on_the_right_and_a_walk
first_on_the_right_and_a_walk_agrees = refl

-- emptied tree
pub replaced_repeated_not_found : Trial
replaced_repeated_not_found = record {
  seen = play 3 3 (
      ask (put 0 9 100) ∷ ask (put 0 9 100) ∷ ask (put 0 9 0) ∷ ask (get 0 9) ∷ ask (put 2 4294967295 5) ∷ ask (put 2 0 6) ∷ ask (get 2 4294967295) ∷ ask (get 2 0) ∷ ask (get 2 1) ∷
      ask (remove 1 9) ∷ ask (remove 0 8) ∷ ask (remove 0 9) ∷ ask (remove 0 9) ∷ go 0 to_first ∷ go 0 to_prev ∷ look ∷ []);
  said =
      no ∷ (value 100) ∷ (value 100) ∷ (value 0) ∷ no ∷ no ∷ (value 5) ∷ (value 6) ∷ no ∷ no ∷ no ∷ (value 0) ∷ no ∷ (no ++ (0 ∷ [])) ∷ (no ++ (0 ∷ [])) ∷
      (3 ∷ 0 ∷ 0 ∷ 2 ∷ 3 ∷ 0 ∷ 0 ∷ 0 ∷ 0 ∷ 0 ∷ 0 ∷ 0 ∷ 0 ∷ 0 ∷ 0 ∷ 0 ∷ 0 ∷ 0 ∷ 0 ∷ 0 ∷ 0 ∷ 34 ∷ 0 ∷ 4294967295 ∷ 0 ∷ 0 ∷ 0 ∷ 0 ∷ 0 ∷ 6 ∷ 5 ∷ 0 ∷ 0 ∷
      0 ∷ 0 ∷ 0 ∷ 0 ∷ 0 ∷ 0 ∷ 0 ∷ 0 ∷ 0 ∷ 0 ∷ 0 ∷ 0 ∷ 0 ∷ 0 ∷ 0 ∷ 0 ∷ 0 ∷ 0 ∷ 0 ∷ 0 ∷ 2 ∷ 3 ∷ 1 ∷ 0 ∷ []) ∷ [];
}

replaced_repeated_not_found_agrees : agree replaced_repeated_not_found ≡ true
unfolding steps replaced_repeated_not_found
replaced_repeated_not_found_agrees = refl

-- leaf split, entry goes left; new root; leaf share, one parent; small right-most leaf stays
pub share_then_a_small_right_most_leaf : Trial
share_then_a_small_right_most_leaf = record {
  seen = play 1 3 (
      ask (put 0 10 1010) ∷ ask (put 0 20 1020) ∷ ask (put 0 30 1030) ∷ ask (put 0 40 1040) ∷ ask (put 0 50 1050) ∷ ask (put 0 60 1060) ∷ ask (put 0 70 1070) ∷ ask (put 0 35 1035) ∷
      ask (put 0 80 1080) ∷ go 0 (to_key 20) ∷ go 0 to_remove ∷ go 0 (to_key 80) ∷ go 0 to_remove ∷ go 0 to_next ∷ go 0 to_prev ∷ look ∷ []);
  said =
      no ∷ no ∷ no ∷ no ∷ no ∷ no ∷ no ∷ no ∷ no ∷ (value 1020 ++ (2 ∷ 3 ∷ 0 ∷ 1 ∷ 1 ∷ [])) ∷ (value 1020 ++ (2 ∷ 3 ∷ 0 ∷ 1 ∷ 1 ∷ [])) ∷
      (value 1080 ++ (2 ∷ 3 ∷ 1 ∷ 2 ∷ 3 ∷ [])) ∷ (value 1080 ++ (0 ∷ [])) ∷ (no ++ (0 ∷ [])) ∷ (pair 70 1070 ++ (2 ∷ 3 ∷ 1 ∷ 2 ∷ 2 ∷ [])) ∷
      (1 ∷ 3 ∷ 3 ∷ 36 ∷ 10 ∷ 30 ∷ 35 ∷ 40 ∷ 0 ∷ 0 ∷ 0 ∷ 1010 ∷ 1030 ∷ 1035 ∷ 1040 ∷ 0 ∷ 0 ∷ 0 ∷ 0 ∷ 35 ∷ 50 ∷ 60 ∷ 70 ∷ 0 ∷ 0 ∷ 0 ∷ 0 ∷ 1050 ∷ 1060 ∷
      1070 ∷ 0 ∷ 0 ∷ 0 ∷ 0 ∷ 0 ∷ 17 ∷ 50 ∷ 0 ∷ 0 ∷ 0 ∷ 0 ∷ 0 ∷ 0 ∷ 1 ∷ 2 ∷ 0 ∷ 0 ∷ 0 ∷ 0 ∷ 0 ∷ 0 ∷ 0 ∷ 0 ∷ 0 ∷ 0 ∷ []) ∷ [];
}

share_then_a_small_right_most_leaf_agrees : agree share_then_a_small_right_most_leaf ≡ true
unfolding steps share_then_a_small_right_most_leaf
share_then_a_small_right_most_leaf_agrees = refl

-- leaf split, entry goes right; new root; leaf merge, one parent; shrunken root; front key's separator one level up; small right-most leaf stays; emptied tree
pub merge_shrunken_root_emptied_tree : Trial
merge_shrunken_root_emptied_tree = record {
  seen = play 1 3 (
      ask (put 0 10 1010) ∷ ask (put 0 20 1020) ∷ ask (put 0 30 1030) ∷ ask (put 0 40 1040) ∷ ask (put 0 50 1050) ∷ ask (put 0 60 1060) ∷ ask (put 0 70 1070) ∷ ask (put 0 80 1080) ∷
      go 0 (to_key 50) ∷ go 0 to_remove ∷ go 0 (to_key 10) ∷ go 0 to_remove ∷ go 0 to_remove ∷ go 0 to_remove ∷ go 0 to_remove ∷ go 0 to_remove ∷ go 0 to_remove ∷ go 0 to_remove ∷
      go 0 to_prev ∷ ask (put 0 7 1007) ∷ look ∷ []);
  said =
      no ∷ no ∷ no ∷ no ∷ no ∷ no ∷ no ∷ no ∷ (value 1050 ++ (2 ∷ 3 ∷ 1 ∷ 2 ∷ 0 ∷ [])) ∷ (value 1050 ++ (2 ∷ 3 ∷ 1 ∷ 2 ∷ 0 ∷ [])) ∷
      (value 1010 ++ (2 ∷ 3 ∷ 0 ∷ 1 ∷ 0 ∷ [])) ∷ (value 1010 ++ (1 ∷ 2 ∷ 0 ∷ [])) ∷ (value 1020 ++ (1 ∷ 2 ∷ 0 ∷ [])) ∷ (value 1030 ++ (1 ∷ 2 ∷ 0 ∷ [])) ∷
      (value 1040 ++ (1 ∷ 2 ∷ 0 ∷ [])) ∷ (value 1060 ++ (1 ∷ 2 ∷ 0 ∷ [])) ∷ (value 1070 ++ (1 ∷ 2 ∷ 0 ∷ [])) ∷ (value 1080 ++ (0 ∷ [])) ∷ (no ++ (0 ∷ [])) ∷ no ∷
      (1 ∷ 2 ∷ 3 ∷ 0 ∷ 0 ∷ 0 ∷ 0 ∷ 0 ∷ 0 ∷ 0 ∷ 0 ∷ 0 ∷ 0 ∷ 0 ∷ 0 ∷ 0 ∷ 0 ∷ 0 ∷ 0 ∷ 33 ∷ 7 ∷ 0 ∷ 0 ∷ 0 ∷ 0 ∷ 0 ∷ 0 ∷ 1007 ∷ 0 ∷ 0 ∷ 0 ∷ 0 ∷ 0 ∷ 0 ∷
      0 ∷ 0 ∷ 0 ∷ 0 ∷ 0 ∷ 0 ∷ 0 ∷ 0 ∷ 0 ∷ 0 ∷ 0 ∷ 0 ∷ 0 ∷ 0 ∷ 0 ∷ 0 ∷ 0 ∷ 2 ∷ 1 ∷ 3 ∷ 0 ∷ []) ∷ [];
}

merge_shrunken_root_emptied_tree_agrees : agree merge_shrunken_root_emptied_tree ≡ true
unfolding steps merge_shrunken_root_emptied_tree
merge_shrunken_root_emptied_tree_agrees = refl

-- leaf split, entry goes left; inner split, child goes left; new root; small right-most leaf stays
pub inner_split_child_goes_left : Trial
inner_split_child_goes_left = record {
  seen = play 1 12 (
      ask (put 0 36 1036) ∷ ask (put 0 35 1035) ∷ ask (put 0 34 1034) ∷ ask (put 0 33 1033) ∷ ask (put 0 32 1032) ∷ ask (put 0 31 1031) ∷ ask (put 0 30 1030) ∷ ask (put 0 29 1029) ∷
      ask (put 0 28 1028) ∷ ask (put 0 27 1027) ∷ ask (put 0 26 1026) ∷ ask (put 0 25 1025) ∷ ask (put 0 24 1024) ∷ ask (put 0 23 1023) ∷ ask (put 0 22 1022) ∷ ask (put 0 21 1021) ∷
      ask (put 0 20 1020) ∷ ask (put 0 19 1019) ∷ ask (put 0 18 1018) ∷ ask (put 0 17 1017) ∷ ask (put 0 16 1016) ∷ ask (put 0 15 1015) ∷ ask (put 0 14 1014) ∷ ask (put 0 13 1013) ∷
      ask (put 0 12 1012) ∷ ask (put 0 11 1011) ∷ ask (put 0 10 1010) ∷ ask (put 0 9 1009) ∷ ask (put 0 8 1008) ∷ ask (put 0 7 1007) ∷ ask (put 0 6 1006) ∷ ask (put 0 5 1005) ∷ ask (put 0 4 1004) ∷
      ask (put 0 3 1003) ∷ ask (put 0 2 1002) ∷ ask (put 0 1 1001) ∷ look ∷ go 0 (to_key 36) ∷ go 0 to_remove ∷ look ∷ []);
  said =
      no ∷ no ∷ no ∷ no ∷ no ∷ no ∷ no ∷ no ∷ no ∷ no ∷ no ∷ no ∷ no ∷ no ∷ no ∷ no ∷ no ∷ no ∷ no ∷ no ∷ no ∷ no ∷ no ∷ no ∷ no ∷ no ∷ no ∷ no ∷ no ∷ no ∷
      no ∷ no ∷ no ∷ no ∷ no ∷ no ∷
      (1 ∷ 12 ∷ 12 ∷ 36 ∷ 1 ∷ 2 ∷ 3 ∷ 4 ∷ 0 ∷ 0 ∷ 0 ∷ 1001 ∷ 1002 ∷ 1003 ∷ 1004 ∷ 0 ∷ 0 ∷ 0 ∷ 0 ∷ 36 ∷ 33 ∷ 34 ∷ 35 ∷ 36 ∷ 0 ∷ 0 ∷ 0 ∷ 1033 ∷ 1034 ∷ 1035 ∷
      1036 ∷ 0 ∷ 0 ∷ 0 ∷ 0 ∷ 20 ∷ 5 ∷ 9 ∷ 13 ∷ 17 ∷ 0 ∷ 0 ∷ 0 ∷ 1 ∷ 10 ∷ 9 ∷ 8 ∷ 7 ∷ 0 ∷ 0 ∷ 0 ∷ 36 ∷ 29 ∷ 30 ∷ 31 ∷ 32 ∷ 0 ∷ 0 ∷ 0 ∷ 1029 ∷ 1030 ∷
      1031 ∷ 1032 ∷ 0 ∷ 0 ∷ 0 ∷ 0 ∷ 36 ∷ 25 ∷ 26 ∷ 27 ∷ 28 ∷ 0 ∷ 0 ∷ 0 ∷ 1025 ∷ 1026 ∷ 1027 ∷ 1028 ∷ 0 ∷ 0 ∷ 0 ∷ 0 ∷ 36 ∷ 21 ∷ 22 ∷ 23 ∷ 24 ∷ 0 ∷ 0 ∷ 0 ∷
      1021 ∷ 1022 ∷ 1023 ∷ 1024 ∷ 0 ∷ 0 ∷ 0 ∷ 0 ∷ 36 ∷ 17 ∷ 18 ∷ 19 ∷ 20 ∷ 0 ∷ 0 ∷ 0 ∷ 1017 ∷ 1018 ∷ 1019 ∷ 1020 ∷ 0 ∷ 0 ∷ 0 ∷ 0 ∷ 36 ∷ 13 ∷ 14 ∷ 15 ∷ 16 ∷
      0 ∷ 0 ∷ 0 ∷ 1013 ∷ 1014 ∷ 1015 ∷ 1016 ∷ 0 ∷ 0 ∷ 0 ∷ 0 ∷ 36 ∷ 9 ∷ 10 ∷ 11 ∷ 12 ∷ 0 ∷ 0 ∷ 0 ∷ 1009 ∷ 1010 ∷ 1011 ∷ 1012 ∷ 0 ∷ 0 ∷ 0 ∷ 0 ∷ 36 ∷ 5 ∷ 6 ∷
      7 ∷ 8 ∷ 0 ∷ 0 ∷ 0 ∷ 1005 ∷ 1006 ∷ 1007 ∷ 1008 ∷ 0 ∷ 0 ∷ 0 ∷ 0 ∷ 19 ∷ 25 ∷ 29 ∷ 33 ∷ 0 ∷ 0 ∷ 0 ∷ 0 ∷ 6 ∷ 5 ∷ 4 ∷ 2 ∷ 0 ∷ 0 ∷ 0 ∷ 0 ∷ 17 ∷ 21 ∷ 0 ∷
      0 ∷ 0 ∷ 0 ∷ 0 ∷ 0 ∷ 3 ∷ 11 ∷ 0 ∷ 0 ∷ 0 ∷ 0 ∷ 0 ∷ 0 ∷ 0 ∷ 0 ∷ 0 ∷ 0 ∷ 0 ∷ 0 ∷ 0 ∷ 0 ∷ 0 ∷ 0 ∷ 0 ∷ 0 ∷ 0 ∷ []) ∷
      (value 1036 ++ (3 ∷ 12 ∷ 1 ∷ 11 ∷ 3 ∷ 2 ∷ 3 ∷ [])) ∷ (value 1036 ++ (0 ∷ [])) ∷
      (1 ∷ 12 ∷ 12 ∷ 36 ∷ 1 ∷ 2 ∷ 3 ∷ 4 ∷ 0 ∷ 0 ∷ 0 ∷ 1001 ∷ 1002 ∷ 1003 ∷ 1004 ∷ 0 ∷ 0 ∷ 0 ∷ 0 ∷ 35 ∷ 33 ∷ 34 ∷ 35 ∷ 0 ∷ 0 ∷ 0 ∷ 0 ∷ 1033 ∷ 1034 ∷ 1035 ∷
      0 ∷ 0 ∷ 0 ∷ 0 ∷ 0 ∷ 20 ∷ 5 ∷ 9 ∷ 13 ∷ 17 ∷ 0 ∷ 0 ∷ 0 ∷ 1 ∷ 10 ∷ 9 ∷ 8 ∷ 7 ∷ 0 ∷ 0 ∷ 0 ∷ 36 ∷ 29 ∷ 30 ∷ 31 ∷ 32 ∷ 0 ∷ 0 ∷ 0 ∷ 1029 ∷ 1030 ∷ 1031 ∷
      1032 ∷ 0 ∷ 0 ∷ 0 ∷ 0 ∷ 36 ∷ 25 ∷ 26 ∷ 27 ∷ 28 ∷ 0 ∷ 0 ∷ 0 ∷ 1025 ∷ 1026 ∷ 1027 ∷ 1028 ∷ 0 ∷ 0 ∷ 0 ∷ 0 ∷ 36 ∷ 21 ∷ 22 ∷ 23 ∷ 24 ∷ 0 ∷ 0 ∷ 0 ∷ 1021 ∷
      1022 ∷ 1023 ∷ 1024 ∷ 0 ∷ 0 ∷ 0 ∷ 0 ∷ 36 ∷ 17 ∷ 18 ∷ 19 ∷ 20 ∷ 0 ∷ 0 ∷ 0 ∷ 1017 ∷ 1018 ∷ 1019 ∷ 1020 ∷ 0 ∷ 0 ∷ 0 ∷ 0 ∷ 36 ∷ 13 ∷ 14 ∷ 15 ∷ 16 ∷ 0 ∷
      0 ∷ 0 ∷ 1013 ∷ 1014 ∷ 1015 ∷ 1016 ∷ 0 ∷ 0 ∷ 0 ∷ 0 ∷ 36 ∷ 9 ∷ 10 ∷ 11 ∷ 12 ∷ 0 ∷ 0 ∷ 0 ∷ 1009 ∷ 1010 ∷ 1011 ∷ 1012 ∷ 0 ∷ 0 ∷ 0 ∷ 0 ∷ 36 ∷ 5 ∷ 6 ∷ 7 ∷
      8 ∷ 0 ∷ 0 ∷ 0 ∷ 1005 ∷ 1006 ∷ 1007 ∷ 1008 ∷ 0 ∷ 0 ∷ 0 ∷ 0 ∷ 19 ∷ 25 ∷ 29 ∷ 33 ∷ 0 ∷ 0 ∷ 0 ∷ 0 ∷ 6 ∷ 5 ∷ 4 ∷ 2 ∷ 0 ∷ 0 ∷ 0 ∷ 0 ∷ 17 ∷ 21 ∷ 0 ∷ 0 ∷
      0 ∷ 0 ∷ 0 ∷ 0 ∷ 3 ∷ 11 ∷ 0 ∷ 0 ∷ 0 ∷ 0 ∷ 0 ∷ 0 ∷ 0 ∷ 0 ∷ 0 ∷ 0 ∷ 0 ∷ 0 ∷ 0 ∷ 0 ∷ 0 ∷ 0 ∷ 0 ∷ 0 ∷ 0 ∷ []) ∷ [];
}

inner_split_child_goes_left_agrees : agree inner_split_child_goes_left ≡ true
unfolding steps inner_split_child_goes_left
inner_split_child_goes_left_agrees = refl

-- leaf split, entry goes right; inner split, child goes right; new root; leaf merge, across parents; parent's merge; shrunken root; front key's separator one level up; three or more nodes freed
pub merge_across_parents_parent_merge : Trial
merge_across_parents_parent_merge = record {
  seen = play 1 12 (
      ask (put 0 1 1001) ∷ ask (put 0 2 1002) ∷ ask (put 0 3 1003) ∷ ask (put 0 4 1004) ∷ ask (put 0 5 1005) ∷ ask (put 0 6 1006) ∷ ask (put 0 7 1007) ∷ ask (put 0 8 1008) ∷ ask (put 0 9 1009) ∷
      ask (put 0 10 1010) ∷ ask (put 0 11 1011) ∷ ask (put 0 12 1012) ∷ ask (put 0 13 1013) ∷ ask (put 0 14 1014) ∷ ask (put 0 15 1015) ∷ ask (put 0 16 1016) ∷ ask (put 0 17 1017) ∷
      ask (put 0 18 1018) ∷ ask (put 0 19 1019) ∷ ask (put 0 20 1020) ∷ ask (put 0 21 1021) ∷ ask (put 0 22 1022) ∷ ask (put 0 23 1023) ∷ ask (put 0 24 1024) ∷ ask (put 0 25 1025) ∷
      ask (put 0 26 1026) ∷ ask (put 0 27 1027) ∷ ask (put 0 28 1028) ∷ ask (put 0 29 1029) ∷ ask (put 0 30 1030) ∷ ask (put 0 31 1031) ∷ ask (put 0 32 1032) ∷ ask (put 0 33 1033) ∷
      ask (put 0 34 1034) ∷ ask (put 0 35 1035) ∷ ask (put 0 36 1036) ∷ look ∷ go 0 (to_key 13) ∷ go 0 to_remove ∷ look ∷ []);
  said =
      no ∷ no ∷ no ∷ no ∷ no ∷ no ∷ no ∷ no ∷ no ∷ no ∷ no ∷ no ∷ no ∷ no ∷ no ∷ no ∷ no ∷ no ∷ no ∷ no ∷ no ∷ no ∷ no ∷ no ∷ no ∷ no ∷ no ∷ no ∷ no ∷ no ∷
      no ∷ no ∷ no ∷ no ∷ no ∷ no ∷
      (1 ∷ 12 ∷ 12 ∷ 36 ∷ 1 ∷ 2 ∷ 3 ∷ 4 ∷ 0 ∷ 0 ∷ 0 ∷ 1001 ∷ 1002 ∷ 1003 ∷ 1004 ∷ 0 ∷ 0 ∷ 0 ∷ 0 ∷ 36 ∷ 5 ∷ 6 ∷ 7 ∷ 8 ∷ 0 ∷ 0 ∷ 0 ∷ 1005 ∷ 1006 ∷ 1007 ∷
      1008 ∷ 0 ∷ 0 ∷ 0 ∷ 0 ∷ 19 ∷ 5 ∷ 9 ∷ 13 ∷ 0 ∷ 0 ∷ 0 ∷ 0 ∷ 1 ∷ 2 ∷ 4 ∷ 5 ∷ 0 ∷ 0 ∷ 0 ∷ 0 ∷ 36 ∷ 9 ∷ 10 ∷ 11 ∷ 12 ∷ 0 ∷ 0 ∷ 0 ∷ 1009 ∷ 1010 ∷ 1011 ∷
      1012 ∷ 0 ∷ 0 ∷ 0 ∷ 0 ∷ 36 ∷ 13 ∷ 14 ∷ 15 ∷ 16 ∷ 0 ∷ 0 ∷ 0 ∷ 1013 ∷ 1014 ∷ 1015 ∷ 1016 ∷ 0 ∷ 0 ∷ 0 ∷ 0 ∷ 36 ∷ 17 ∷ 18 ∷ 19 ∷ 20 ∷ 0 ∷ 0 ∷ 0 ∷ 1017 ∷
      1018 ∷ 1019 ∷ 1020 ∷ 0 ∷ 0 ∷ 0 ∷ 0 ∷ 36 ∷ 21 ∷ 22 ∷ 23 ∷ 24 ∷ 0 ∷ 0 ∷ 0 ∷ 1021 ∷ 1022 ∷ 1023 ∷ 1024 ∷ 0 ∷ 0 ∷ 0 ∷ 0 ∷ 36 ∷ 25 ∷ 26 ∷ 27 ∷ 28 ∷ 0 ∷
      0 ∷ 0 ∷ 1025 ∷ 1026 ∷ 1027 ∷ 1028 ∷ 0 ∷ 0 ∷ 0 ∷ 0 ∷ 36 ∷ 29 ∷ 30 ∷ 31 ∷ 32 ∷ 0 ∷ 0 ∷ 0 ∷ 1029 ∷ 1030 ∷ 1031 ∷ 1032 ∷ 0 ∷ 0 ∷ 0 ∷ 0 ∷ 36 ∷ 33 ∷ 34 ∷
      35 ∷ 36 ∷ 0 ∷ 0 ∷ 0 ∷ 1033 ∷ 1034 ∷ 1035 ∷ 1036 ∷ 0 ∷ 0 ∷ 0 ∷ 0 ∷ 20 ∷ 21 ∷ 25 ∷ 29 ∷ 33 ∷ 0 ∷ 0 ∷ 0 ∷ 6 ∷ 7 ∷ 8 ∷ 9 ∷ 10 ∷ 0 ∷ 0 ∷ 0 ∷ 17 ∷ 17 ∷
      0 ∷ 0 ∷ 0 ∷ 0 ∷ 0 ∷ 0 ∷ 3 ∷ 11 ∷ 0 ∷ 0 ∷ 0 ∷ 0 ∷ 0 ∷ 0 ∷ 0 ∷ 0 ∷ 0 ∷ 0 ∷ 0 ∷ 0 ∷ 0 ∷ 0 ∷ 0 ∷ 0 ∷ 0 ∷ 0 ∷ 0 ∷ []) ∷
      (value 1013 ++ (3 ∷ 12 ∷ 0 ∷ 3 ∷ 3 ∷ 5 ∷ 0 ∷ [])) ∷ (value 1013 ++ (2 ∷ 11 ∷ 3 ∷ 6 ∷ 0 ∷ [])) ∷
      (1 ∷ 11 ∷ 12 ∷ 36 ∷ 1 ∷ 2 ∷ 3 ∷ 4 ∷ 0 ∷ 0 ∷ 0 ∷ 1001 ∷ 1002 ∷ 1003 ∷ 1004 ∷ 0 ∷ 0 ∷ 0 ∷ 0 ∷ 36 ∷ 5 ∷ 6 ∷ 7 ∷ 8 ∷ 0 ∷ 0 ∷ 0 ∷ 1005 ∷ 1006 ∷ 1007 ∷
      1008 ∷ 0 ∷ 0 ∷ 0 ∷ 0 ∷ 0 ∷ 0 ∷ 0 ∷ 0 ∷ 0 ∷ 0 ∷ 0 ∷ 0 ∷ 0 ∷ 0 ∷ 0 ∷ 0 ∷ 0 ∷ 0 ∷ 0 ∷ 0 ∷ 36 ∷ 9 ∷ 10 ∷ 11 ∷ 12 ∷ 0 ∷ 0 ∷ 0 ∷ 1009 ∷ 1010 ∷ 1011 ∷
      1012 ∷ 0 ∷ 0 ∷ 0 ∷ 0 ∷ 0 ∷ 0 ∷ 0 ∷ 0 ∷ 0 ∷ 0 ∷ 0 ∷ 0 ∷ 0 ∷ 0 ∷ 0 ∷ 0 ∷ 0 ∷ 0 ∷ 0 ∷ 0 ∷ 39 ∷ 14 ∷ 15 ∷ 16 ∷ 17 ∷ 18 ∷ 19 ∷ 20 ∷ 1014 ∷ 1015 ∷
      1016 ∷ 1017 ∷ 1018 ∷ 1019 ∷ 1020 ∷ 0 ∷ 36 ∷ 21 ∷ 22 ∷ 23 ∷ 24 ∷ 0 ∷ 0 ∷ 0 ∷ 1021 ∷ 1022 ∷ 1023 ∷ 1024 ∷ 0 ∷ 0 ∷ 0 ∷ 0 ∷ 36 ∷ 25 ∷ 26 ∷ 27 ∷ 28 ∷ 0 ∷
      0 ∷ 0 ∷ 1025 ∷ 1026 ∷ 1027 ∷ 1028 ∷ 0 ∷ 0 ∷ 0 ∷ 0 ∷ 36 ∷ 29 ∷ 30 ∷ 31 ∷ 32 ∷ 0 ∷ 0 ∷ 0 ∷ 1029 ∷ 1030 ∷ 1031 ∷ 1032 ∷ 0 ∷ 0 ∷ 0 ∷ 0 ∷ 36 ∷ 33 ∷ 34 ∷
      35 ∷ 36 ∷ 0 ∷ 0 ∷ 0 ∷ 1033 ∷ 1034 ∷ 1035 ∷ 1036 ∷ 0 ∷ 0 ∷ 0 ∷ 0 ∷ 23 ∷ 5 ∷ 9 ∷ 14 ∷ 21 ∷ 25 ∷ 29 ∷ 33 ∷ 1 ∷ 2 ∷ 4 ∷ 6 ∷ 7 ∷ 8 ∷ 9 ∷ 10 ∷ 0 ∷ 0 ∷
      0 ∷ 0 ∷ 0 ∷ 0 ∷ 0 ∷ 0 ∷ 0 ∷ 0 ∷ 0 ∷ 0 ∷ 0 ∷ 0 ∷ 0 ∷ 0 ∷ 3 ∷ 5 ∷ 3 ∷ 12 ∷ 0 ∷ 0 ∷ 0 ∷ 0 ∷ 0 ∷ 0 ∷ 0 ∷ 0 ∷ 0 ∷ []) ∷ [];
}

merge_across_parents_parent_merge_agrees : agree merge_across_parents_parent_merge ≡ true
unfolding steps merge_across_parents_parent_merge
merge_across_parents_parent_merge_agrees = refl

-- leaf split, entry goes right; inner split, child goes right; new root; leaf merge, across parents; parent's share; front key's separator one level up
pub parent_share : Trial
parent_share = record {
  seen = play 1 13 (
      ask (put 0 1 1001) ∷ ask (put 0 2 1002) ∷ ask (put 0 3 1003) ∷ ask (put 0 4 1004) ∷ ask (put 0 5 1005) ∷ ask (put 0 6 1006) ∷ ask (put 0 7 1007) ∷ ask (put 0 8 1008) ∷ ask (put 0 9 1009) ∷
      ask (put 0 10 1010) ∷ ask (put 0 11 1011) ∷ ask (put 0 12 1012) ∷ ask (put 0 13 1013) ∷ ask (put 0 14 1014) ∷ ask (put 0 15 1015) ∷ ask (put 0 16 1016) ∷ ask (put 0 17 1017) ∷
      ask (put 0 18 1018) ∷ ask (put 0 19 1019) ∷ ask (put 0 20 1020) ∷ ask (put 0 21 1021) ∷ ask (put 0 22 1022) ∷ ask (put 0 23 1023) ∷ ask (put 0 24 1024) ∷ ask (put 0 25 1025) ∷
      ask (put 0 26 1026) ∷ ask (put 0 27 1027) ∷ ask (put 0 28 1028) ∷ ask (put 0 29 1029) ∷ ask (put 0 30 1030) ∷ ask (put 0 31 1031) ∷ ask (put 0 32 1032) ∷ ask (put 0 33 1033) ∷
      ask (put 0 34 1034) ∷ ask (put 0 35 1035) ∷ ask (put 0 36 1036) ∷ ask (put 0 37 1037) ∷ ask (put 0 38 1038) ∷ ask (put 0 39 1039) ∷ ask (put 0 40 1040) ∷ look ∷ go 0 (to_key 13) ∷
      go 0 to_remove ∷ go 0 to_prev ∷ go 0 to_next ∷ look ∷ []);
  said =
      no ∷ no ∷ no ∷ no ∷ no ∷ no ∷ no ∷ no ∷ no ∷ no ∷ no ∷ no ∷ no ∷ no ∷ no ∷ no ∷ no ∷ no ∷ no ∷ no ∷ no ∷ no ∷ no ∷ no ∷ no ∷ no ∷ no ∷ no ∷ no ∷ no ∷
      no ∷ no ∷ no ∷ no ∷ no ∷ no ∷ no ∷ no ∷ no ∷ no ∷
      (1 ∷ 12 ∷ 13 ∷ 36 ∷ 1 ∷ 2 ∷ 3 ∷ 4 ∷ 0 ∷ 0 ∷ 0 ∷ 1001 ∷ 1002 ∷ 1003 ∷ 1004 ∷ 0 ∷ 0 ∷ 0 ∷ 0 ∷ 36 ∷ 5 ∷ 6 ∷ 7 ∷ 8 ∷ 0 ∷ 0 ∷ 0 ∷ 1005 ∷ 1006 ∷ 1007 ∷
      1008 ∷ 0 ∷ 0 ∷ 0 ∷ 0 ∷ 19 ∷ 5 ∷ 9 ∷ 13 ∷ 0 ∷ 0 ∷ 0 ∷ 0 ∷ 1 ∷ 2 ∷ 4 ∷ 5 ∷ 0 ∷ 0 ∷ 0 ∷ 0 ∷ 36 ∷ 9 ∷ 10 ∷ 11 ∷ 12 ∷ 0 ∷ 0 ∷ 0 ∷ 1009 ∷ 1010 ∷ 1011 ∷
      1012 ∷ 0 ∷ 0 ∷ 0 ∷ 0 ∷ 36 ∷ 13 ∷ 14 ∷ 15 ∷ 16 ∷ 0 ∷ 0 ∷ 0 ∷ 1013 ∷ 1014 ∷ 1015 ∷ 1016 ∷ 0 ∷ 0 ∷ 0 ∷ 0 ∷ 36 ∷ 17 ∷ 18 ∷ 19 ∷ 20 ∷ 0 ∷ 0 ∷ 0 ∷ 1017 ∷
      1018 ∷ 1019 ∷ 1020 ∷ 0 ∷ 0 ∷ 0 ∷ 0 ∷ 36 ∷ 21 ∷ 22 ∷ 23 ∷ 24 ∷ 0 ∷ 0 ∷ 0 ∷ 1021 ∷ 1022 ∷ 1023 ∷ 1024 ∷ 0 ∷ 0 ∷ 0 ∷ 0 ∷ 36 ∷ 25 ∷ 26 ∷ 27 ∷ 28 ∷ 0 ∷
      0 ∷ 0 ∷ 1025 ∷ 1026 ∷ 1027 ∷ 1028 ∷ 0 ∷ 0 ∷ 0 ∷ 0 ∷ 36 ∷ 29 ∷ 30 ∷ 31 ∷ 32 ∷ 0 ∷ 0 ∷ 0 ∷ 1029 ∷ 1030 ∷ 1031 ∷ 1032 ∷ 0 ∷ 0 ∷ 0 ∷ 0 ∷ 36 ∷ 33 ∷ 34 ∷
      35 ∷ 36 ∷ 0 ∷ 0 ∷ 0 ∷ 1033 ∷ 1034 ∷ 1035 ∷ 1036 ∷ 0 ∷ 0 ∷ 0 ∷ 0 ∷ 21 ∷ 21 ∷ 25 ∷ 29 ∷ 33 ∷ 37 ∷ 0 ∷ 0 ∷ 6 ∷ 7 ∷ 8 ∷ 9 ∷ 10 ∷ 13 ∷ 0 ∷ 0 ∷ 17 ∷ 17 ∷
      0 ∷ 0 ∷ 0 ∷ 0 ∷ 0 ∷ 0 ∷ 3 ∷ 11 ∷ 0 ∷ 0 ∷ 0 ∷ 0 ∷ 0 ∷ 0 ∷ 36 ∷ 37 ∷ 38 ∷ 39 ∷ 40 ∷ 0 ∷ 0 ∷ 0 ∷ 1037 ∷ 1038 ∷ 1039 ∷ 1040 ∷ 0 ∷ 0 ∷ 0 ∷ 0 ∷ 0 ∷ 0 ∷
      0 ∷ 0 ∷ 0 ∷ 0 ∷ 0 ∷ 0 ∷ 0 ∷ 0 ∷ 0 ∷ 0 ∷ 0 ∷ 0 ∷ []) ∷
      (value 1013 ++ (3 ∷ 12 ∷ 0 ∷ 3 ∷ 3 ∷ 5 ∷ 0 ∷ [])) ∷ (value 1013 ++ (3 ∷ 12 ∷ 0 ∷ 3 ∷ 3 ∷ 6 ∷ 0 ∷ [])) ∷ (pair 12 1012 ++ (3 ∷ 12 ∷ 0 ∷ 3 ∷ 2 ∷ 4 ∷ 3 ∷ [])) ∷
      (pair 14 1014 ++ (3 ∷ 12 ∷ 0 ∷ 3 ∷ 3 ∷ 6 ∷ 0 ∷ [])) ∷
      (1 ∷ 12 ∷ 13 ∷ 36 ∷ 1 ∷ 2 ∷ 3 ∷ 4 ∷ 0 ∷ 0 ∷ 0 ∷ 1001 ∷ 1002 ∷ 1003 ∷ 1004 ∷ 0 ∷ 0 ∷ 0 ∷ 0 ∷ 36 ∷ 5 ∷ 6 ∷ 7 ∷ 8 ∷ 0 ∷ 0 ∷ 0 ∷ 1005 ∷ 1006 ∷ 1007 ∷
      1008 ∷ 0 ∷ 0 ∷ 0 ∷ 0 ∷ 20 ∷ 5 ∷ 9 ∷ 14 ∷ 21 ∷ 0 ∷ 0 ∷ 0 ∷ 1 ∷ 2 ∷ 4 ∷ 6 ∷ 7 ∷ 0 ∷ 0 ∷ 0 ∷ 36 ∷ 9 ∷ 10 ∷ 11 ∷ 12 ∷ 0 ∷ 0 ∷ 0 ∷ 1009 ∷ 1010 ∷
      1011 ∷ 1012 ∷ 0 ∷ 0 ∷ 0 ∷ 0 ∷ 0 ∷ 0 ∷ 0 ∷ 0 ∷ 0 ∷ 0 ∷ 0 ∷ 0 ∷ 0 ∷ 0 ∷ 0 ∷ 0 ∷ 0 ∷ 0 ∷ 0 ∷ 0 ∷ 39 ∷ 14 ∷ 15 ∷ 16 ∷ 17 ∷ 18 ∷ 19 ∷ 20 ∷ 1014 ∷
      1015 ∷ 1016 ∷ 1017 ∷ 1018 ∷ 1019 ∷ 1020 ∷ 0 ∷ 36 ∷ 21 ∷ 22 ∷ 23 ∷ 24 ∷ 0 ∷ 0 ∷ 0 ∷ 1021 ∷ 1022 ∷ 1023 ∷ 1024 ∷ 0 ∷ 0 ∷ 0 ∷ 0 ∷ 36 ∷ 25 ∷ 26 ∷ 27 ∷ 28 ∷
      0 ∷ 0 ∷ 0 ∷ 1025 ∷ 1026 ∷ 1027 ∷ 1028 ∷ 0 ∷ 0 ∷ 0 ∷ 0 ∷ 36 ∷ 29 ∷ 30 ∷ 31 ∷ 32 ∷ 0 ∷ 0 ∷ 0 ∷ 1029 ∷ 1030 ∷ 1031 ∷ 1032 ∷ 0 ∷ 0 ∷ 0 ∷ 0 ∷ 36 ∷ 33 ∷
      34 ∷ 35 ∷ 36 ∷ 0 ∷ 0 ∷ 0 ∷ 1033 ∷ 1034 ∷ 1035 ∷ 1036 ∷ 0 ∷ 0 ∷ 0 ∷ 0 ∷ 19 ∷ 29 ∷ 33 ∷ 37 ∷ 0 ∷ 0 ∷ 0 ∷ 0 ∷ 8 ∷ 9 ∷ 10 ∷ 13 ∷ 0 ∷ 0 ∷ 0 ∷ 0 ∷ 17 ∷
      25 ∷ 0 ∷ 0 ∷ 0 ∷ 0 ∷ 0 ∷ 0 ∷ 3 ∷ 11 ∷ 0 ∷ 0 ∷ 0 ∷ 0 ∷ 0 ∷ 0 ∷ 36 ∷ 37 ∷ 38 ∷ 39 ∷ 40 ∷ 0 ∷ 0 ∷ 0 ∷ 1037 ∷ 1038 ∷ 1039 ∷ 1040 ∷ 0 ∷ 0 ∷ 0 ∷ 0 ∷
      1 ∷ 5 ∷ 0 ∷ 0 ∷ 0 ∷ 0 ∷ 0 ∷ 0 ∷ 0 ∷ 0 ∷ 0 ∷ 0 ∷ 0 ∷ 0 ∷ []) ∷ [];
}

parent_share_agrees : agree parent_share ≡ true
unfolding steps parent_share
parent_share_agrees = refl

-- leaf split, entry goes right; inner split, child goes right; new root; leaf merge, one parent; front key's separator two levels up
pub separator_two_levels_up : Trial
separator_two_levels_up = record {
  seen = play 1 12 (
      ask (put 0 2 1002) ∷ ask (put 0 4 1004) ∷ ask (put 0 6 1006) ∷ ask (put 0 8 1008) ∷ ask (put 0 10 1010) ∷ ask (put 0 12 1012) ∷ ask (put 0 14 1014) ∷ ask (put 0 16 1016) ∷
      ask (put 0 18 1018) ∷ ask (put 0 20 1020) ∷ ask (put 0 22 1022) ∷ ask (put 0 24 1024) ∷ ask (put 0 26 1026) ∷ ask (put 0 28 1028) ∷ ask (put 0 30 1030) ∷ ask (put 0 32 1032) ∷
      ask (put 0 34 1034) ∷ ask (put 0 36 1036) ∷ ask (put 0 38 1038) ∷ ask (put 0 40 1040) ∷ ask (put 0 42 1042) ∷ ask (put 0 44 1044) ∷ ask (put 0 46 1046) ∷ ask (put 0 48 1048) ∷
      ask (put 0 50 1050) ∷ ask (put 0 52 1052) ∷ ask (put 0 54 1054) ∷ ask (put 0 56 1056) ∷ ask (put 0 58 1058) ∷ ask (put 0 60 1060) ∷ ask (put 0 62 1062) ∷ ask (put 0 64 1064) ∷
      ask (put 0 66 1066) ∷ ask (put 0 68 1068) ∷ ask (put 0 70 1070) ∷ ask (put 0 72 1072) ∷ look ∷ ask (put 0 35 1035) ∷ look ∷ go 0 (to_key 34) ∷ go 0 to_remove ∷ look ∷ ask (remove 0 35) ∷
      ask (get 0 36) ∷ look ∷ []);
  said =
      no ∷ no ∷ no ∷ no ∷ no ∷ no ∷ no ∷ no ∷ no ∷ no ∷ no ∷ no ∷ no ∷ no ∷ no ∷ no ∷ no ∷ no ∷ no ∷ no ∷ no ∷ no ∷ no ∷ no ∷ no ∷ no ∷ no ∷ no ∷ no ∷ no ∷
      no ∷ no ∷ no ∷ no ∷ no ∷ no ∷
      (1 ∷ 12 ∷ 12 ∷ 36 ∷ 2 ∷ 4 ∷ 6 ∷ 8 ∷ 0 ∷ 0 ∷ 0 ∷ 1002 ∷ 1004 ∷ 1006 ∷ 1008 ∷ 0 ∷ 0 ∷ 0 ∷ 0 ∷ 36 ∷ 10 ∷ 12 ∷ 14 ∷ 16 ∷ 0 ∷ 0 ∷ 0 ∷ 1010 ∷ 1012 ∷ 1014 ∷
      1016 ∷ 0 ∷ 0 ∷ 0 ∷ 0 ∷ 19 ∷ 10 ∷ 18 ∷ 26 ∷ 0 ∷ 0 ∷ 0 ∷ 0 ∷ 1 ∷ 2 ∷ 4 ∷ 5 ∷ 0 ∷ 0 ∷ 0 ∷ 0 ∷ 36 ∷ 18 ∷ 20 ∷ 22 ∷ 24 ∷ 0 ∷ 0 ∷ 0 ∷ 1018 ∷ 1020 ∷
      1022 ∷ 1024 ∷ 0 ∷ 0 ∷ 0 ∷ 0 ∷ 36 ∷ 26 ∷ 28 ∷ 30 ∷ 32 ∷ 0 ∷ 0 ∷ 0 ∷ 1026 ∷ 1028 ∷ 1030 ∷ 1032 ∷ 0 ∷ 0 ∷ 0 ∷ 0 ∷ 36 ∷ 34 ∷ 36 ∷ 38 ∷ 40 ∷ 0 ∷ 0 ∷ 0 ∷
      1034 ∷ 1036 ∷ 1038 ∷ 1040 ∷ 0 ∷ 0 ∷ 0 ∷ 0 ∷ 36 ∷ 42 ∷ 44 ∷ 46 ∷ 48 ∷ 0 ∷ 0 ∷ 0 ∷ 1042 ∷ 1044 ∷ 1046 ∷ 1048 ∷ 0 ∷ 0 ∷ 0 ∷ 0 ∷ 36 ∷ 50 ∷ 52 ∷ 54 ∷ 56 ∷
      0 ∷ 0 ∷ 0 ∷ 1050 ∷ 1052 ∷ 1054 ∷ 1056 ∷ 0 ∷ 0 ∷ 0 ∷ 0 ∷ 36 ∷ 58 ∷ 60 ∷ 62 ∷ 64 ∷ 0 ∷ 0 ∷ 0 ∷ 1058 ∷ 1060 ∷ 1062 ∷ 1064 ∷ 0 ∷ 0 ∷ 0 ∷ 0 ∷ 36 ∷ 66 ∷
      68 ∷ 70 ∷ 72 ∷ 0 ∷ 0 ∷ 0 ∷ 1066 ∷ 1068 ∷ 1070 ∷ 1072 ∷ 0 ∷ 0 ∷ 0 ∷ 0 ∷ 20 ∷ 42 ∷ 50 ∷ 58 ∷ 66 ∷ 0 ∷ 0 ∷ 0 ∷ 6 ∷ 7 ∷ 8 ∷ 9 ∷ 10 ∷ 0 ∷ 0 ∷ 0 ∷ 17 ∷
      34 ∷ 0 ∷ 0 ∷ 0 ∷ 0 ∷ 0 ∷ 0 ∷ 3 ∷ 11 ∷ 0 ∷ 0 ∷ 0 ∷ 0 ∷ 0 ∷ 0 ∷ 0 ∷ 0 ∷ 0 ∷ 0 ∷ 0 ∷ 0 ∷ 0 ∷ 0 ∷ 0 ∷ 0 ∷ 0 ∷ 0 ∷ 0 ∷ []) ∷
      no ∷
      (1 ∷ 12 ∷ 12 ∷ 36 ∷ 2 ∷ 4 ∷ 6 ∷ 8 ∷ 0 ∷ 0 ∷ 0 ∷ 1002 ∷ 1004 ∷ 1006 ∷ 1008 ∷ 0 ∷ 0 ∷ 0 ∷ 0 ∷ 36 ∷ 10 ∷ 12 ∷ 14 ∷ 16 ∷ 0 ∷ 0 ∷ 0 ∷ 1010 ∷ 1012 ∷ 1014 ∷
      1016 ∷ 0 ∷ 0 ∷ 0 ∷ 0 ∷ 19 ∷ 10 ∷ 18 ∷ 26 ∷ 0 ∷ 0 ∷ 0 ∷ 0 ∷ 1 ∷ 2 ∷ 4 ∷ 5 ∷ 0 ∷ 0 ∷ 0 ∷ 0 ∷ 36 ∷ 18 ∷ 20 ∷ 22 ∷ 24 ∷ 0 ∷ 0 ∷ 0 ∷ 1018 ∷ 1020 ∷
      1022 ∷ 1024 ∷ 0 ∷ 0 ∷ 0 ∷ 0 ∷ 36 ∷ 26 ∷ 28 ∷ 30 ∷ 32 ∷ 0 ∷ 0 ∷ 0 ∷ 1026 ∷ 1028 ∷ 1030 ∷ 1032 ∷ 0 ∷ 0 ∷ 0 ∷ 0 ∷ 37 ∷ 34 ∷ 35 ∷ 36 ∷ 38 ∷ 40 ∷ 0 ∷ 0 ∷
      1034 ∷ 1035 ∷ 1036 ∷ 1038 ∷ 1040 ∷ 0 ∷ 0 ∷ 0 ∷ 36 ∷ 42 ∷ 44 ∷ 46 ∷ 48 ∷ 0 ∷ 0 ∷ 0 ∷ 1042 ∷ 1044 ∷ 1046 ∷ 1048 ∷ 0 ∷ 0 ∷ 0 ∷ 0 ∷ 36 ∷ 50 ∷ 52 ∷ 54 ∷
      56 ∷ 0 ∷ 0 ∷ 0 ∷ 1050 ∷ 1052 ∷ 1054 ∷ 1056 ∷ 0 ∷ 0 ∷ 0 ∷ 0 ∷ 36 ∷ 58 ∷ 60 ∷ 62 ∷ 64 ∷ 0 ∷ 0 ∷ 0 ∷ 1058 ∷ 1060 ∷ 1062 ∷ 1064 ∷ 0 ∷ 0 ∷ 0 ∷ 0 ∷ 36 ∷
      66 ∷ 68 ∷ 70 ∷ 72 ∷ 0 ∷ 0 ∷ 0 ∷ 1066 ∷ 1068 ∷ 1070 ∷ 1072 ∷ 0 ∷ 0 ∷ 0 ∷ 0 ∷ 20 ∷ 42 ∷ 50 ∷ 58 ∷ 66 ∷ 0 ∷ 0 ∷ 0 ∷ 6 ∷ 7 ∷ 8 ∷ 9 ∷ 10 ∷ 0 ∷ 0 ∷ 0 ∷
      17 ∷ 34 ∷ 0 ∷ 0 ∷ 0 ∷ 0 ∷ 0 ∷ 0 ∷ 3 ∷ 11 ∷ 0 ∷ 0 ∷ 0 ∷ 0 ∷ 0 ∷ 0 ∷ 0 ∷ 0 ∷ 0 ∷ 0 ∷ 0 ∷ 0 ∷ 0 ∷ 0 ∷ 0 ∷ 0 ∷ 0 ∷ 0 ∷ 0 ∷ []) ∷
      (value 1034 ++ (3 ∷ 12 ∷ 1 ∷ 11 ∷ 0 ∷ 6 ∷ 0 ∷ [])) ∷ (value 1034 ++ (3 ∷ 12 ∷ 1 ∷ 11 ∷ 0 ∷ 6 ∷ 0 ∷ [])) ∷
      (1 ∷ 12 ∷ 12 ∷ 36 ∷ 2 ∷ 4 ∷ 6 ∷ 8 ∷ 0 ∷ 0 ∷ 0 ∷ 1002 ∷ 1004 ∷ 1006 ∷ 1008 ∷ 0 ∷ 0 ∷ 0 ∷ 0 ∷ 36 ∷ 10 ∷ 12 ∷ 14 ∷ 16 ∷ 0 ∷ 0 ∷ 0 ∷ 1010 ∷ 1012 ∷ 1014 ∷
      1016 ∷ 0 ∷ 0 ∷ 0 ∷ 0 ∷ 19 ∷ 10 ∷ 18 ∷ 26 ∷ 0 ∷ 0 ∷ 0 ∷ 0 ∷ 1 ∷ 2 ∷ 4 ∷ 5 ∷ 0 ∷ 0 ∷ 0 ∷ 0 ∷ 36 ∷ 18 ∷ 20 ∷ 22 ∷ 24 ∷ 0 ∷ 0 ∷ 0 ∷ 1018 ∷ 1020 ∷
      1022 ∷ 1024 ∷ 0 ∷ 0 ∷ 0 ∷ 0 ∷ 36 ∷ 26 ∷ 28 ∷ 30 ∷ 32 ∷ 0 ∷ 0 ∷ 0 ∷ 1026 ∷ 1028 ∷ 1030 ∷ 1032 ∷ 0 ∷ 0 ∷ 0 ∷ 0 ∷ 36 ∷ 35 ∷ 36 ∷ 38 ∷ 40 ∷ 0 ∷ 0 ∷ 0 ∷
      1035 ∷ 1036 ∷ 1038 ∷ 1040 ∷ 0 ∷ 0 ∷ 0 ∷ 0 ∷ 36 ∷ 42 ∷ 44 ∷ 46 ∷ 48 ∷ 0 ∷ 0 ∷ 0 ∷ 1042 ∷ 1044 ∷ 1046 ∷ 1048 ∷ 0 ∷ 0 ∷ 0 ∷ 0 ∷ 36 ∷ 50 ∷ 52 ∷ 54 ∷ 56 ∷
      0 ∷ 0 ∷ 0 ∷ 1050 ∷ 1052 ∷ 1054 ∷ 1056 ∷ 0 ∷ 0 ∷ 0 ∷ 0 ∷ 36 ∷ 58 ∷ 60 ∷ 62 ∷ 64 ∷ 0 ∷ 0 ∷ 0 ∷ 1058 ∷ 1060 ∷ 1062 ∷ 1064 ∷ 0 ∷ 0 ∷ 0 ∷ 0 ∷ 36 ∷ 66 ∷
      68 ∷ 70 ∷ 72 ∷ 0 ∷ 0 ∷ 0 ∷ 1066 ∷ 1068 ∷ 1070 ∷ 1072 ∷ 0 ∷ 0 ∷ 0 ∷ 0 ∷ 20 ∷ 42 ∷ 50 ∷ 58 ∷ 66 ∷ 0 ∷ 0 ∷ 0 ∷ 6 ∷ 7 ∷ 8 ∷ 9 ∷ 10 ∷ 0 ∷ 0 ∷ 0 ∷ 17 ∷
      35 ∷ 0 ∷ 0 ∷ 0 ∷ 0 ∷ 0 ∷ 0 ∷ 3 ∷ 11 ∷ 0 ∷ 0 ∷ 0 ∷ 0 ∷ 0 ∷ 0 ∷ 0 ∷ 0 ∷ 0 ∷ 0 ∷ 0 ∷ 0 ∷ 0 ∷ 0 ∷ 0 ∷ 0 ∷ 0 ∷ 0 ∷ 0 ∷ []) ∷
      (value 1035) ∷ (value 1036) ∷
      (1 ∷ 12 ∷ 12 ∷ 36 ∷ 2 ∷ 4 ∷ 6 ∷ 8 ∷ 0 ∷ 0 ∷ 0 ∷ 1002 ∷ 1004 ∷ 1006 ∷ 1008 ∷ 0 ∷ 0 ∷ 0 ∷ 0 ∷ 36 ∷ 10 ∷ 12 ∷ 14 ∷ 16 ∷ 0 ∷ 0 ∷ 0 ∷ 1010 ∷ 1012 ∷ 1014 ∷
      1016 ∷ 0 ∷ 0 ∷ 0 ∷ 0 ∷ 19 ∷ 10 ∷ 18 ∷ 26 ∷ 0 ∷ 0 ∷ 0 ∷ 0 ∷ 1 ∷ 2 ∷ 4 ∷ 5 ∷ 0 ∷ 0 ∷ 0 ∷ 0 ∷ 36 ∷ 18 ∷ 20 ∷ 22 ∷ 24 ∷ 0 ∷ 0 ∷ 0 ∷ 1018 ∷ 1020 ∷
      1022 ∷ 1024 ∷ 0 ∷ 0 ∷ 0 ∷ 0 ∷ 36 ∷ 26 ∷ 28 ∷ 30 ∷ 32 ∷ 0 ∷ 0 ∷ 0 ∷ 1026 ∷ 1028 ∷ 1030 ∷ 1032 ∷ 0 ∷ 0 ∷ 0 ∷ 0 ∷ 0 ∷ 0 ∷ 0 ∷ 0 ∷ 0 ∷ 0 ∷ 0 ∷ 0 ∷ 0 ∷
      0 ∷ 0 ∷ 0 ∷ 0 ∷ 0 ∷ 0 ∷ 0 ∷ 39 ∷ 36 ∷ 38 ∷ 40 ∷ 42 ∷ 44 ∷ 46 ∷ 48 ∷ 1036 ∷ 1038 ∷ 1040 ∷ 1042 ∷ 1044 ∷ 1046 ∷ 1048 ∷ 0 ∷ 36 ∷ 50 ∷ 52 ∷ 54 ∷ 56 ∷ 0 ∷
      0 ∷ 0 ∷ 1050 ∷ 1052 ∷ 1054 ∷ 1056 ∷ 0 ∷ 0 ∷ 0 ∷ 0 ∷ 36 ∷ 58 ∷ 60 ∷ 62 ∷ 64 ∷ 0 ∷ 0 ∷ 0 ∷ 1058 ∷ 1060 ∷ 1062 ∷ 1064 ∷ 0 ∷ 0 ∷ 0 ∷ 0 ∷ 36 ∷ 66 ∷ 68 ∷
      70 ∷ 72 ∷ 0 ∷ 0 ∷ 0 ∷ 1066 ∷ 1068 ∷ 1070 ∷ 1072 ∷ 0 ∷ 0 ∷ 0 ∷ 0 ∷ 19 ∷ 50 ∷ 58 ∷ 66 ∷ 0 ∷ 0 ∷ 0 ∷ 0 ∷ 7 ∷ 8 ∷ 9 ∷ 10 ∷ 0 ∷ 0 ∷ 0 ∷ 0 ∷ 17 ∷ 36 ∷
      0 ∷ 0 ∷ 0 ∷ 0 ∷ 0 ∷ 0 ∷ 3 ∷ 11 ∷ 0 ∷ 0 ∷ 0 ∷ 0 ∷ 0 ∷ 0 ∷ 1 ∷ 6 ∷ 0 ∷ 0 ∷ 0 ∷ 0 ∷ 0 ∷ 0 ∷ 0 ∷ 0 ∷ 0 ∷ 0 ∷ 0 ∷ []) ∷ [];
}

separator_two_levels_up_agrees : agree separator_two_levels_up ≡ true
unfolding steps separator_two_levels_up
separator_two_levels_up_agrees = refl

-- leaf split, entry goes right; inner split, child goes right; new root; emptied right-most leaf, parent stays; emptied right-most leaf with its parent; shrunken root; small right-most leaf stays; three or more nodes freed
pub emptied_right_most_leaf_with_its_parent : Trial
emptied_right_most_leaf_with_its_parent = record {
  seen = play 1 12 (
      ask (put 0 1 1001) ∷ ask (put 0 2 1002) ∷ ask (put 0 3 1003) ∷ ask (put 0 4 1004) ∷ ask (put 0 5 1005) ∷ ask (put 0 6 1006) ∷ ask (put 0 7 1007) ∷ ask (put 0 8 1008) ∷ ask (put 0 9 1009) ∷
      ask (put 0 10 1010) ∷ ask (put 0 11 1011) ∷ ask (put 0 12 1012) ∷ ask (put 0 13 1013) ∷ ask (put 0 14 1014) ∷ ask (put 0 15 1015) ∷ ask (put 0 16 1016) ∷ ask (put 0 17 1017) ∷
      ask (put 0 18 1018) ∷ ask (put 0 19 1019) ∷ ask (put 0 20 1020) ∷ ask (put 0 21 1021) ∷ ask (put 0 22 1022) ∷ ask (put 0 23 1023) ∷ ask (put 0 24 1024) ∷ ask (put 0 25 1025) ∷
      ask (put 0 26 1026) ∷ ask (put 0 27 1027) ∷ ask (put 0 28 1028) ∷ ask (put 0 29 1029) ∷ ask (put 0 30 1030) ∷ ask (put 0 31 1031) ∷ ask (put 0 32 1032) ∷ ask (put 0 33 1033) ∷
      ask (put 0 34 1034) ∷ ask (put 0 35 1035) ∷ ask (put 0 36 1036) ∷ look ∷ ask (remove 0 36) ∷ ask (remove 0 35) ∷ ask (remove 0 34) ∷ ask (remove 0 33) ∷ ask (remove 0 32) ∷
      ask (remove 0 31) ∷ ask (remove 0 30) ∷ ask (remove 0 29) ∷ ask (remove 0 28) ∷ ask (remove 0 27) ∷ ask (remove 0 26) ∷ ask (remove 0 25) ∷ ask (remove 0 24) ∷ ask (remove 0 23) ∷
      ask (remove 0 22) ∷ ask (remove 0 21) ∷ ask (remove 0 20) ∷ ask (remove 0 19) ∷ look ∷ ask (remove 0 18) ∷ look ∷ go 0 (to_key 17) ∷ go 0 to_remove ∷ go 0 to_prev ∷ look ∷ []);
  said =
      no ∷ no ∷ no ∷ no ∷ no ∷ no ∷ no ∷ no ∷ no ∷ no ∷ no ∷ no ∷ no ∷ no ∷ no ∷ no ∷ no ∷ no ∷ no ∷ no ∷ no ∷ no ∷ no ∷ no ∷ no ∷ no ∷ no ∷ no ∷ no ∷ no ∷
      no ∷ no ∷ no ∷ no ∷ no ∷ no ∷
      (1 ∷ 12 ∷ 12 ∷ 36 ∷ 1 ∷ 2 ∷ 3 ∷ 4 ∷ 0 ∷ 0 ∷ 0 ∷ 1001 ∷ 1002 ∷ 1003 ∷ 1004 ∷ 0 ∷ 0 ∷ 0 ∷ 0 ∷ 36 ∷ 5 ∷ 6 ∷ 7 ∷ 8 ∷ 0 ∷ 0 ∷ 0 ∷ 1005 ∷ 1006 ∷ 1007 ∷
      1008 ∷ 0 ∷ 0 ∷ 0 ∷ 0 ∷ 19 ∷ 5 ∷ 9 ∷ 13 ∷ 0 ∷ 0 ∷ 0 ∷ 0 ∷ 1 ∷ 2 ∷ 4 ∷ 5 ∷ 0 ∷ 0 ∷ 0 ∷ 0 ∷ 36 ∷ 9 ∷ 10 ∷ 11 ∷ 12 ∷ 0 ∷ 0 ∷ 0 ∷ 1009 ∷ 1010 ∷ 1011 ∷
      1012 ∷ 0 ∷ 0 ∷ 0 ∷ 0 ∷ 36 ∷ 13 ∷ 14 ∷ 15 ∷ 16 ∷ 0 ∷ 0 ∷ 0 ∷ 1013 ∷ 1014 ∷ 1015 ∷ 1016 ∷ 0 ∷ 0 ∷ 0 ∷ 0 ∷ 36 ∷ 17 ∷ 18 ∷ 19 ∷ 20 ∷ 0 ∷ 0 ∷ 0 ∷ 1017 ∷
      1018 ∷ 1019 ∷ 1020 ∷ 0 ∷ 0 ∷ 0 ∷ 0 ∷ 36 ∷ 21 ∷ 22 ∷ 23 ∷ 24 ∷ 0 ∷ 0 ∷ 0 ∷ 1021 ∷ 1022 ∷ 1023 ∷ 1024 ∷ 0 ∷ 0 ∷ 0 ∷ 0 ∷ 36 ∷ 25 ∷ 26 ∷ 27 ∷ 28 ∷ 0 ∷
      0 ∷ 0 ∷ 1025 ∷ 1026 ∷ 1027 ∷ 1028 ∷ 0 ∷ 0 ∷ 0 ∷ 0 ∷ 36 ∷ 29 ∷ 30 ∷ 31 ∷ 32 ∷ 0 ∷ 0 ∷ 0 ∷ 1029 ∷ 1030 ∷ 1031 ∷ 1032 ∷ 0 ∷ 0 ∷ 0 ∷ 0 ∷ 36 ∷ 33 ∷ 34 ∷
      35 ∷ 36 ∷ 0 ∷ 0 ∷ 0 ∷ 1033 ∷ 1034 ∷ 1035 ∷ 1036 ∷ 0 ∷ 0 ∷ 0 ∷ 0 ∷ 20 ∷ 21 ∷ 25 ∷ 29 ∷ 33 ∷ 0 ∷ 0 ∷ 0 ∷ 6 ∷ 7 ∷ 8 ∷ 9 ∷ 10 ∷ 0 ∷ 0 ∷ 0 ∷ 17 ∷ 17 ∷
      0 ∷ 0 ∷ 0 ∷ 0 ∷ 0 ∷ 0 ∷ 3 ∷ 11 ∷ 0 ∷ 0 ∷ 0 ∷ 0 ∷ 0 ∷ 0 ∷ 0 ∷ 0 ∷ 0 ∷ 0 ∷ 0 ∷ 0 ∷ 0 ∷ 0 ∷ 0 ∷ 0 ∷ 0 ∷ 0 ∷ 0 ∷ []) ∷
      (value 1036) ∷ (value 1035) ∷ (value 1034) ∷ (value 1033) ∷ (value 1032) ∷ (value 1031) ∷ (value 1030) ∷ (value 1029) ∷ (value 1028) ∷ (value 1027) ∷ (value 1026) ∷ (value 1025) ∷
      (value 1024) ∷ (value 1023) ∷ (value 1022) ∷ (value 1021) ∷ (value 1020) ∷ (value 1019) ∷
      (1 ∷ 12 ∷ 12 ∷ 36 ∷ 1 ∷ 2 ∷ 3 ∷ 4 ∷ 0 ∷ 0 ∷ 0 ∷ 1001 ∷ 1002 ∷ 1003 ∷ 1004 ∷ 0 ∷ 0 ∷ 0 ∷ 0 ∷ 36 ∷ 5 ∷ 6 ∷ 7 ∷ 8 ∷ 0 ∷ 0 ∷ 0 ∷ 1005 ∷ 1006 ∷ 1007 ∷
      1008 ∷ 0 ∷ 0 ∷ 0 ∷ 0 ∷ 19 ∷ 5 ∷ 9 ∷ 13 ∷ 0 ∷ 0 ∷ 0 ∷ 0 ∷ 1 ∷ 2 ∷ 4 ∷ 5 ∷ 0 ∷ 0 ∷ 0 ∷ 0 ∷ 36 ∷ 9 ∷ 10 ∷ 11 ∷ 12 ∷ 0 ∷ 0 ∷ 0 ∷ 1009 ∷ 1010 ∷ 1011 ∷
      1012 ∷ 0 ∷ 0 ∷ 0 ∷ 0 ∷ 36 ∷ 13 ∷ 14 ∷ 15 ∷ 16 ∷ 0 ∷ 0 ∷ 0 ∷ 1013 ∷ 1014 ∷ 1015 ∷ 1016 ∷ 0 ∷ 0 ∷ 0 ∷ 0 ∷ 34 ∷ 17 ∷ 18 ∷ 0 ∷ 0 ∷ 0 ∷ 0 ∷ 0 ∷ 1017 ∷
      1018 ∷ 0 ∷ 0 ∷ 0 ∷ 0 ∷ 0 ∷ 0 ∷ 0 ∷ 0 ∷ 0 ∷ 0 ∷ 0 ∷ 0 ∷ 0 ∷ 0 ∷ 0 ∷ 0 ∷ 0 ∷ 0 ∷ 0 ∷ 0 ∷ 0 ∷ 0 ∷ 0 ∷ 0 ∷ 0 ∷ 0 ∷ 0 ∷ 0 ∷ 0 ∷ 0 ∷ 0 ∷ 0 ∷ 0 ∷
      0 ∷ 0 ∷ 0 ∷ 0 ∷ 0 ∷ 0 ∷ 0 ∷ 0 ∷ 0 ∷ 0 ∷ 0 ∷ 0 ∷ 0 ∷ 0 ∷ 0 ∷ 0 ∷ 0 ∷ 0 ∷ 0 ∷ 0 ∷ 0 ∷ 0 ∷ 0 ∷ 0 ∷ 0 ∷ 0 ∷ 0 ∷ 0 ∷ 0 ∷ 0 ∷ 0 ∷ 0 ∷ 0 ∷ 0 ∷ 0 ∷
      0 ∷ 0 ∷ 16 ∷ 0 ∷ 0 ∷ 0 ∷ 0 ∷ 0 ∷ 0 ∷ 0 ∷ 6 ∷ 0 ∷ 0 ∷ 0 ∷ 0 ∷ 0 ∷ 0 ∷ 0 ∷ 17 ∷ 17 ∷ 0 ∷ 0 ∷ 0 ∷ 0 ∷ 0 ∷ 0 ∷ 3 ∷ 11 ∷ 0 ∷ 0 ∷ 0 ∷ 0 ∷ 0 ∷ 0 ∷
      4 ∷ 10 ∷ 9 ∷ 8 ∷ 7 ∷ 0 ∷ 0 ∷ 0 ∷ 0 ∷ 0 ∷ 0 ∷ 0 ∷ 0 ∷ []) ∷
      (value 1018) ∷
      (1 ∷ 12 ∷ 12 ∷ 36 ∷ 1 ∷ 2 ∷ 3 ∷ 4 ∷ 0 ∷ 0 ∷ 0 ∷ 1001 ∷ 1002 ∷ 1003 ∷ 1004 ∷ 0 ∷ 0 ∷ 0 ∷ 0 ∷ 36 ∷ 5 ∷ 6 ∷ 7 ∷ 8 ∷ 0 ∷ 0 ∷ 0 ∷ 1005 ∷ 1006 ∷ 1007 ∷
      1008 ∷ 0 ∷ 0 ∷ 0 ∷ 0 ∷ 19 ∷ 5 ∷ 9 ∷ 13 ∷ 0 ∷ 0 ∷ 0 ∷ 0 ∷ 1 ∷ 2 ∷ 4 ∷ 5 ∷ 0 ∷ 0 ∷ 0 ∷ 0 ∷ 36 ∷ 9 ∷ 10 ∷ 11 ∷ 12 ∷ 0 ∷ 0 ∷ 0 ∷ 1009 ∷ 1010 ∷ 1011 ∷
      1012 ∷ 0 ∷ 0 ∷ 0 ∷ 0 ∷ 36 ∷ 13 ∷ 14 ∷ 15 ∷ 16 ∷ 0 ∷ 0 ∷ 0 ∷ 1013 ∷ 1014 ∷ 1015 ∷ 1016 ∷ 0 ∷ 0 ∷ 0 ∷ 0 ∷ 33 ∷ 17 ∷ 0 ∷ 0 ∷ 0 ∷ 0 ∷ 0 ∷ 0 ∷ 1017 ∷
      0 ∷ 0 ∷ 0 ∷ 0 ∷ 0 ∷ 0 ∷ 0 ∷ 0 ∷ 0 ∷ 0 ∷ 0 ∷ 0 ∷ 0 ∷ 0 ∷ 0 ∷ 0 ∷ 0 ∷ 0 ∷ 0 ∷ 0 ∷ 0 ∷ 0 ∷ 0 ∷ 0 ∷ 0 ∷ 0 ∷ 0 ∷ 0 ∷ 0 ∷ 0 ∷ 0 ∷ 0 ∷ 0 ∷ 0 ∷ 0 ∷
      0 ∷ 0 ∷ 0 ∷ 0 ∷ 0 ∷ 0 ∷ 0 ∷ 0 ∷ 0 ∷ 0 ∷ 0 ∷ 0 ∷ 0 ∷ 0 ∷ 0 ∷ 0 ∷ 0 ∷ 0 ∷ 0 ∷ 0 ∷ 0 ∷ 0 ∷ 0 ∷ 0 ∷ 0 ∷ 0 ∷ 0 ∷ 0 ∷ 0 ∷ 0 ∷ 0 ∷ 0 ∷ 0 ∷ 0 ∷ 0 ∷
      0 ∷ 16 ∷ 0 ∷ 0 ∷ 0 ∷ 0 ∷ 0 ∷ 0 ∷ 0 ∷ 6 ∷ 0 ∷ 0 ∷ 0 ∷ 0 ∷ 0 ∷ 0 ∷ 0 ∷ 17 ∷ 17 ∷ 0 ∷ 0 ∷ 0 ∷ 0 ∷ 0 ∷ 0 ∷ 3 ∷ 11 ∷ 0 ∷ 0 ∷ 0 ∷ 0 ∷ 0 ∷ 0 ∷ 4 ∷
      10 ∷ 9 ∷ 8 ∷ 7 ∷ 0 ∷ 0 ∷ 0 ∷ 0 ∷ 0 ∷ 0 ∷ 0 ∷ 0 ∷ []) ∷
      (value 1017 ++ (3 ∷ 12 ∷ 1 ∷ 11 ∷ 0 ∷ 6 ∷ 0 ∷ [])) ∷ (value 1017 ++ (0 ∷ [])) ∷ (pair 16 1016 ++ (2 ∷ 3 ∷ 3 ∷ 5 ∷ 3 ∷ [])) ∷
      (1 ∷ 3 ∷ 12 ∷ 36 ∷ 1 ∷ 2 ∷ 3 ∷ 4 ∷ 0 ∷ 0 ∷ 0 ∷ 1001 ∷ 1002 ∷ 1003 ∷ 1004 ∷ 0 ∷ 0 ∷ 0 ∷ 0 ∷ 36 ∷ 5 ∷ 6 ∷ 7 ∷ 8 ∷ 0 ∷ 0 ∷ 0 ∷ 1005 ∷ 1006 ∷ 1007 ∷
      1008 ∷ 0 ∷ 0 ∷ 0 ∷ 0 ∷ 19 ∷ 5 ∷ 9 ∷ 13 ∷ 0 ∷ 0 ∷ 0 ∷ 0 ∷ 1 ∷ 2 ∷ 4 ∷ 5 ∷ 0 ∷ 0 ∷ 0 ∷ 0 ∷ 36 ∷ 9 ∷ 10 ∷ 11 ∷ 12 ∷ 0 ∷ 0 ∷ 0 ∷ 1009 ∷ 1010 ∷ 1011 ∷
      1012 ∷ 0 ∷ 0 ∷ 0 ∷ 0 ∷ 36 ∷ 13 ∷ 14 ∷ 15 ∷ 16 ∷ 0 ∷ 0 ∷ 0 ∷ 1013 ∷ 1014 ∷ 1015 ∷ 1016 ∷ 0 ∷ 0 ∷ 0 ∷ 0 ∷ 0 ∷ 0 ∷ 0 ∷ 0 ∷ 0 ∷ 0 ∷ 0 ∷ 0 ∷ 0 ∷ 0 ∷
      0 ∷ 0 ∷ 0 ∷ 0 ∷ 0 ∷ 0 ∷ 0 ∷ 0 ∷ 0 ∷ 0 ∷ 0 ∷ 0 ∷ 0 ∷ 0 ∷ 0 ∷ 0 ∷ 0 ∷ 0 ∷ 0 ∷ 0 ∷ 0 ∷ 0 ∷ 0 ∷ 0 ∷ 0 ∷ 0 ∷ 0 ∷ 0 ∷ 0 ∷ 0 ∷ 0 ∷ 0 ∷ 0 ∷ 0 ∷ 0 ∷
      0 ∷ 0 ∷ 0 ∷ 0 ∷ 0 ∷ 0 ∷ 0 ∷ 0 ∷ 0 ∷ 0 ∷ 0 ∷ 0 ∷ 0 ∷ 0 ∷ 0 ∷ 0 ∷ 0 ∷ 0 ∷ 0 ∷ 0 ∷ 0 ∷ 0 ∷ 0 ∷ 0 ∷ 0 ∷ 0 ∷ 0 ∷ 0 ∷ 0 ∷ 0 ∷ 0 ∷ 0 ∷ 0 ∷ 0 ∷ 0 ∷
      0 ∷ 0 ∷ 0 ∷ 0 ∷ 0 ∷ 0 ∷ 0 ∷ 0 ∷ 0 ∷ 0 ∷ 0 ∷ 0 ∷ 0 ∷ 0 ∷ 0 ∷ 0 ∷ 0 ∷ 0 ∷ 0 ∷ 0 ∷ 0 ∷ 0 ∷ 0 ∷ 0 ∷ 0 ∷ 0 ∷ 0 ∷ 0 ∷ 0 ∷ 0 ∷ 0 ∷ 0 ∷ 7 ∷ 10 ∷
      9 ∷ 8 ∷ 7 ∷ 6 ∷ 11 ∷ 12 ∷ 0 ∷ 0 ∷ 0 ∷ 0 ∷ 0 ∷ []) ∷ [];
}

emptied_right_most_leaf_with_its_parent_agrees : agree emptied_right_most_leaf_with_its_parent ≡ true
unfolding steps emptied_right_most_leaf_with_its_parent
emptied_right_most_leaf_with_its_parent_agrees = refl

-- leaf split, entry goes right; inner split, child goes right; new root; leaf share, across parents
pub share_across_parents : Trial
share_across_parents = record {
  seen = play 1 12 (
      ask (put 0 2 1002) ∷ ask (put 0 4 1004) ∷ ask (put 0 6 1006) ∷ ask (put 0 8 1008) ∷ ask (put 0 10 1010) ∷ ask (put 0 12 1012) ∷ ask (put 0 14 1014) ∷ ask (put 0 16 1016) ∷
      ask (put 0 18 1018) ∷ ask (put 0 20 1020) ∷ ask (put 0 22 1022) ∷ ask (put 0 24 1024) ∷ ask (put 0 26 1026) ∷ ask (put 0 28 1028) ∷ ask (put 0 30 1030) ∷ ask (put 0 32 1032) ∷
      ask (put 0 34 1034) ∷ ask (put 0 36 1036) ∷ ask (put 0 38 1038) ∷ ask (put 0 40 1040) ∷ ask (put 0 42 1042) ∷ ask (put 0 44 1044) ∷ ask (put 0 46 1046) ∷ ask (put 0 48 1048) ∷
      ask (put 0 50 1050) ∷ ask (put 0 52 1052) ∷ ask (put 0 54 1054) ∷ ask (put 0 56 1056) ∷ ask (put 0 58 1058) ∷ ask (put 0 60 1060) ∷ ask (put 0 62 1062) ∷ ask (put 0 64 1064) ∷
      ask (put 0 66 1066) ∷ ask (put 0 68 1068) ∷ ask (put 0 70 1070) ∷ ask (put 0 72 1072) ∷ look ∷ ask (put 0 39 1039) ∷ look ∷ go 0 (to_key 28) ∷ go 0 to_remove ∷ go 0 to_prev ∷ look ∷ []);
  said =
      no ∷ no ∷ no ∷ no ∷ no ∷ no ∷ no ∷ no ∷ no ∷ no ∷ no ∷ no ∷ no ∷ no ∷ no ∷ no ∷ no ∷ no ∷ no ∷ no ∷ no ∷ no ∷ no ∷ no ∷ no ∷ no ∷ no ∷ no ∷ no ∷ no ∷
      no ∷ no ∷ no ∷ no ∷ no ∷ no ∷
      (1 ∷ 12 ∷ 12 ∷ 36 ∷ 2 ∷ 4 ∷ 6 ∷ 8 ∷ 0 ∷ 0 ∷ 0 ∷ 1002 ∷ 1004 ∷ 1006 ∷ 1008 ∷ 0 ∷ 0 ∷ 0 ∷ 0 ∷ 36 ∷ 10 ∷ 12 ∷ 14 ∷ 16 ∷ 0 ∷ 0 ∷ 0 ∷ 1010 ∷ 1012 ∷ 1014 ∷
      1016 ∷ 0 ∷ 0 ∷ 0 ∷ 0 ∷ 19 ∷ 10 ∷ 18 ∷ 26 ∷ 0 ∷ 0 ∷ 0 ∷ 0 ∷ 1 ∷ 2 ∷ 4 ∷ 5 ∷ 0 ∷ 0 ∷ 0 ∷ 0 ∷ 36 ∷ 18 ∷ 20 ∷ 22 ∷ 24 ∷ 0 ∷ 0 ∷ 0 ∷ 1018 ∷ 1020 ∷
      1022 ∷ 1024 ∷ 0 ∷ 0 ∷ 0 ∷ 0 ∷ 36 ∷ 26 ∷ 28 ∷ 30 ∷ 32 ∷ 0 ∷ 0 ∷ 0 ∷ 1026 ∷ 1028 ∷ 1030 ∷ 1032 ∷ 0 ∷ 0 ∷ 0 ∷ 0 ∷ 36 ∷ 34 ∷ 36 ∷ 38 ∷ 40 ∷ 0 ∷ 0 ∷ 0 ∷
      1034 ∷ 1036 ∷ 1038 ∷ 1040 ∷ 0 ∷ 0 ∷ 0 ∷ 0 ∷ 36 ∷ 42 ∷ 44 ∷ 46 ∷ 48 ∷ 0 ∷ 0 ∷ 0 ∷ 1042 ∷ 1044 ∷ 1046 ∷ 1048 ∷ 0 ∷ 0 ∷ 0 ∷ 0 ∷ 36 ∷ 50 ∷ 52 ∷ 54 ∷ 56 ∷
      0 ∷ 0 ∷ 0 ∷ 1050 ∷ 1052 ∷ 1054 ∷ 1056 ∷ 0 ∷ 0 ∷ 0 ∷ 0 ∷ 36 ∷ 58 ∷ 60 ∷ 62 ∷ 64 ∷ 0 ∷ 0 ∷ 0 ∷ 1058 ∷ 1060 ∷ 1062 ∷ 1064 ∷ 0 ∷ 0 ∷ 0 ∷ 0 ∷ 36 ∷ 66 ∷
      68 ∷ 70 ∷ 72 ∷ 0 ∷ 0 ∷ 0 ∷ 1066 ∷ 1068 ∷ 1070 ∷ 1072 ∷ 0 ∷ 0 ∷ 0 ∷ 0 ∷ 20 ∷ 42 ∷ 50 ∷ 58 ∷ 66 ∷ 0 ∷ 0 ∷ 0 ∷ 6 ∷ 7 ∷ 8 ∷ 9 ∷ 10 ∷ 0 ∷ 0 ∷ 0 ∷ 17 ∷
      34 ∷ 0 ∷ 0 ∷ 0 ∷ 0 ∷ 0 ∷ 0 ∷ 3 ∷ 11 ∷ 0 ∷ 0 ∷ 0 ∷ 0 ∷ 0 ∷ 0 ∷ 0 ∷ 0 ∷ 0 ∷ 0 ∷ 0 ∷ 0 ∷ 0 ∷ 0 ∷ 0 ∷ 0 ∷ 0 ∷ 0 ∷ 0 ∷ []) ∷
      no ∷
      (1 ∷ 12 ∷ 12 ∷ 36 ∷ 2 ∷ 4 ∷ 6 ∷ 8 ∷ 0 ∷ 0 ∷ 0 ∷ 1002 ∷ 1004 ∷ 1006 ∷ 1008 ∷ 0 ∷ 0 ∷ 0 ∷ 0 ∷ 36 ∷ 10 ∷ 12 ∷ 14 ∷ 16 ∷ 0 ∷ 0 ∷ 0 ∷ 1010 ∷ 1012 ∷ 1014 ∷
      1016 ∷ 0 ∷ 0 ∷ 0 ∷ 0 ∷ 19 ∷ 10 ∷ 18 ∷ 26 ∷ 0 ∷ 0 ∷ 0 ∷ 0 ∷ 1 ∷ 2 ∷ 4 ∷ 5 ∷ 0 ∷ 0 ∷ 0 ∷ 0 ∷ 36 ∷ 18 ∷ 20 ∷ 22 ∷ 24 ∷ 0 ∷ 0 ∷ 0 ∷ 1018 ∷ 1020 ∷
      1022 ∷ 1024 ∷ 0 ∷ 0 ∷ 0 ∷ 0 ∷ 36 ∷ 26 ∷ 28 ∷ 30 ∷ 32 ∷ 0 ∷ 0 ∷ 0 ∷ 1026 ∷ 1028 ∷ 1030 ∷ 1032 ∷ 0 ∷ 0 ∷ 0 ∷ 0 ∷ 37 ∷ 34 ∷ 36 ∷ 38 ∷ 39 ∷ 40 ∷ 0 ∷ 0 ∷
      1034 ∷ 1036 ∷ 1038 ∷ 1039 ∷ 1040 ∷ 0 ∷ 0 ∷ 0 ∷ 36 ∷ 42 ∷ 44 ∷ 46 ∷ 48 ∷ 0 ∷ 0 ∷ 0 ∷ 1042 ∷ 1044 ∷ 1046 ∷ 1048 ∷ 0 ∷ 0 ∷ 0 ∷ 0 ∷ 36 ∷ 50 ∷ 52 ∷ 54 ∷
      56 ∷ 0 ∷ 0 ∷ 0 ∷ 1050 ∷ 1052 ∷ 1054 ∷ 1056 ∷ 0 ∷ 0 ∷ 0 ∷ 0 ∷ 36 ∷ 58 ∷ 60 ∷ 62 ∷ 64 ∷ 0 ∷ 0 ∷ 0 ∷ 1058 ∷ 1060 ∷ 1062 ∷ 1064 ∷ 0 ∷ 0 ∷ 0 ∷ 0 ∷ 36 ∷
      66 ∷ 68 ∷ 70 ∷ 72 ∷ 0 ∷ 0 ∷ 0 ∷ 1066 ∷ 1068 ∷ 1070 ∷ 1072 ∷ 0 ∷ 0 ∷ 0 ∷ 0 ∷ 20 ∷ 42 ∷ 50 ∷ 58 ∷ 66 ∷ 0 ∷ 0 ∷ 0 ∷ 6 ∷ 7 ∷ 8 ∷ 9 ∷ 10 ∷ 0 ∷ 0 ∷ 0 ∷
      17 ∷ 34 ∷ 0 ∷ 0 ∷ 0 ∷ 0 ∷ 0 ∷ 0 ∷ 3 ∷ 11 ∷ 0 ∷ 0 ∷ 0 ∷ 0 ∷ 0 ∷ 0 ∷ 0 ∷ 0 ∷ 0 ∷ 0 ∷ 0 ∷ 0 ∷ 0 ∷ 0 ∷ 0 ∷ 0 ∷ 0 ∷ 0 ∷ 0 ∷ []) ∷
      (value 1028 ++ (3 ∷ 12 ∷ 0 ∷ 3 ∷ 3 ∷ 5 ∷ 1 ∷ [])) ∷ (value 1028 ++ (3 ∷ 12 ∷ 0 ∷ 3 ∷ 3 ∷ 5 ∷ 1 ∷ [])) ∷ (pair 26 1026 ++ (3 ∷ 12 ∷ 0 ∷ 3 ∷ 3 ∷ 5 ∷ 0 ∷ [])) ∷
      (1 ∷ 12 ∷ 12 ∷ 36 ∷ 2 ∷ 4 ∷ 6 ∷ 8 ∷ 0 ∷ 0 ∷ 0 ∷ 1002 ∷ 1004 ∷ 1006 ∷ 1008 ∷ 0 ∷ 0 ∷ 0 ∷ 0 ∷ 36 ∷ 10 ∷ 12 ∷ 14 ∷ 16 ∷ 0 ∷ 0 ∷ 0 ∷ 1010 ∷ 1012 ∷ 1014 ∷
      1016 ∷ 0 ∷ 0 ∷ 0 ∷ 0 ∷ 19 ∷ 10 ∷ 18 ∷ 26 ∷ 0 ∷ 0 ∷ 0 ∷ 0 ∷ 1 ∷ 2 ∷ 4 ∷ 5 ∷ 0 ∷ 0 ∷ 0 ∷ 0 ∷ 36 ∷ 18 ∷ 20 ∷ 22 ∷ 24 ∷ 0 ∷ 0 ∷ 0 ∷ 1018 ∷ 1020 ∷
      1022 ∷ 1024 ∷ 0 ∷ 0 ∷ 0 ∷ 0 ∷ 36 ∷ 26 ∷ 30 ∷ 32 ∷ 34 ∷ 0 ∷ 0 ∷ 0 ∷ 1026 ∷ 1030 ∷ 1032 ∷ 1034 ∷ 0 ∷ 0 ∷ 0 ∷ 0 ∷ 36 ∷ 36 ∷ 38 ∷ 39 ∷ 40 ∷ 0 ∷ 0 ∷ 0 ∷
      1036 ∷ 1038 ∷ 1039 ∷ 1040 ∷ 0 ∷ 0 ∷ 0 ∷ 0 ∷ 36 ∷ 42 ∷ 44 ∷ 46 ∷ 48 ∷ 0 ∷ 0 ∷ 0 ∷ 1042 ∷ 1044 ∷ 1046 ∷ 1048 ∷ 0 ∷ 0 ∷ 0 ∷ 0 ∷ 36 ∷ 50 ∷ 52 ∷ 54 ∷ 56 ∷
      0 ∷ 0 ∷ 0 ∷ 1050 ∷ 1052 ∷ 1054 ∷ 1056 ∷ 0 ∷ 0 ∷ 0 ∷ 0 ∷ 36 ∷ 58 ∷ 60 ∷ 62 ∷ 64 ∷ 0 ∷ 0 ∷ 0 ∷ 1058 ∷ 1060 ∷ 1062 ∷ 1064 ∷ 0 ∷ 0 ∷ 0 ∷ 0 ∷ 36 ∷ 66 ∷
      68 ∷ 70 ∷ 72 ∷ 0 ∷ 0 ∷ 0 ∷ 1066 ∷ 1068 ∷ 1070 ∷ 1072 ∷ 0 ∷ 0 ∷ 0 ∷ 0 ∷ 20 ∷ 42 ∷ 50 ∷ 58 ∷ 66 ∷ 0 ∷ 0 ∷ 0 ∷ 6 ∷ 7 ∷ 8 ∷ 9 ∷ 10 ∷ 0 ∷ 0 ∷ 0 ∷ 17 ∷
      36 ∷ 0 ∷ 0 ∷ 0 ∷ 0 ∷ 0 ∷ 0 ∷ 3 ∷ 11 ∷ 0 ∷ 0 ∷ 0 ∷ 0 ∷ 0 ∷ 0 ∷ 0 ∷ 0 ∷ 0 ∷ 0 ∷ 0 ∷ 0 ∷ 0 ∷ 0 ∷ 0 ∷ 0 ∷ 0 ∷ 0 ∷ 0 ∷ []) ∷ [];
}

share_across_parents_agrees : agree share_across_parents ≡ true
unfolding steps share_across_parents
share_across_parents_agrees = refl

-- leaf split, entry goes right; new root; leaf share, one parent; leaf merge, one parent; shrunken root
pub two_trees_take_and_give_by_turns : Trial
two_trees_take_and_give_by_turns = record {
  seen = play 2 6 (
      ask (put 0 10 1010) ∷ ask (put 0 20 1020) ∷ ask (put 0 30 1030) ∷ ask (put 0 40 1040) ∷ ask (put 1 1 1001) ∷ ask (put 1 2 1002) ∷ ask (put 1 3 1003) ∷ ask (put 1 4 1004) ∷
      ask (put 1 5 1005) ∷ ask (put 1 6 1006) ∷ ask (put 1 7 1007) ∷ ask (put 0 50 1050) ∷ ask (put 0 60 1060) ∷ ask (put 0 70 1070) ∷ ask (put 0 80 1080) ∷ go 0 (to_key 10) ∷ go 0 to_remove ∷
      ask (put 1 8 1008) ∷ ask (put 1 9 1009) ∷ go 1 (to_key 2) ∷ go 1 to_remove ∷ ask (remove 0 20) ∷ ask (remove 0 30) ∷ go 0 to_first ∷ go 1 (to_key 5) ∷ look ∷ []);
  said =
      no ∷ no ∷ no ∷ no ∷ no ∷ no ∷ no ∷ no ∷ no ∷ no ∷ no ∷ no ∷ no ∷ no ∷ no ∷ (value 1010 ++ (2 ∷ 4 ∷ 0 ∷ 1 ∷ 0 ∷ [])) ∷ (value 1010 ++ (1 ∷ 3 ∷ 0 ∷ [])) ∷ no ∷
      no ∷ (value 1002 ++ (2 ∷ 1 ∷ 0 ∷ 2 ∷ 1 ∷ [])) ∷ (value 1002 ++ (2 ∷ 1 ∷ 0 ∷ 2 ∷ 1 ∷ [])) ∷ (value 1020) ∷ (value 1030) ∷ (pair 40 1040 ++ (1 ∷ 3 ∷ 0 ∷ [])) ∷
      (value 1005 ++ (2 ∷ 1 ∷ 0 ∷ 2 ∷ 3 ∷ [])) ∷
      (2 ∷ 3 ∷ 1 ∷ 6 ∷ 17 ∷ 6 ∷ 0 ∷ 0 ∷ 0 ∷ 0 ∷ 0 ∷ 0 ∷ 2 ∷ 4 ∷ 0 ∷ 0 ∷ 0 ∷ 0 ∷ 0 ∷ 0 ∷ 36 ∷ 1 ∷ 3 ∷ 4 ∷ 5 ∷ 0 ∷ 0 ∷ 0 ∷ 1001 ∷ 1003 ∷ 1004 ∷ 1005 ∷
      0 ∷ 0 ∷ 0 ∷ 0 ∷ 37 ∷ 40 ∷ 50 ∷ 60 ∷ 70 ∷ 80 ∷ 0 ∷ 0 ∷ 1040 ∷ 1050 ∷ 1060 ∷ 1070 ∷ 1080 ∷ 0 ∷ 0 ∷ 0 ∷ 36 ∷ 6 ∷ 7 ∷ 8 ∷ 9 ∷ 0 ∷ 0 ∷ 0 ∷ 1006 ∷ 1007 ∷
      1008 ∷ 1009 ∷ 0 ∷ 0 ∷ 0 ∷ 0 ∷ 0 ∷ 0 ∷ 0 ∷ 0 ∷ 0 ∷ 0 ∷ 0 ∷ 0 ∷ 0 ∷ 0 ∷ 0 ∷ 0 ∷ 0 ∷ 0 ∷ 0 ∷ 0 ∷ 0 ∷ 0 ∷ 0 ∷ 0 ∷ 0 ∷ 0 ∷ 0 ∷ 0 ∷ 0 ∷ 0 ∷ 0 ∷ 0 ∷
      0 ∷ 0 ∷ 0 ∷ 0 ∷ 2 ∷ 6 ∷ 5 ∷ 0 ∷ 0 ∷ 0 ∷ 0 ∷ []) ∷ [];
}

two_trees_take_and_give_by_turns_agrees : agree two_trees_take_and_give_by_turns ≡ true
unfolding steps two_trees_take_and_give_by_turns
two_trees_take_and_give_by_turns_agrees = refl

-- the claim
abbrev pub recorded : List Trial
recorded = leaf_splits_left_and_right ∷ first_on_the_right_and_a_walk ∷ replaced_repeated_not_found ∷ share_then_a_small_right_most_leaf ∷ merge_shrunken_root_emptied_tree ∷ inner_split_child_goes_left ∷ merge_across_parents_parent_merge ∷ parent_share ∷ separator_two_levels_up ∷ emptied_right_most_leaf_with_its_parent ∷ share_across_parents ∷ two_trees_take_and_give_by_turns ∷ []

pub recorded_hold : AllHold recorded
recorded_hold = (holds leaf_splits_left_and_right leaf_splits_left_and_right_agrees, (holds first_on_the_right_and_a_walk first_on_the_right_and_a_walk_agrees, (holds replaced_repeated_not_found replaced_repeated_not_found_agrees, (holds share_then_a_small_right_most_leaf share_then_a_small_right_most_leaf_agrees, (holds merge_shrunken_root_emptied_tree merge_shrunken_root_emptied_tree_agrees, (holds inner_split_child_goes_left inner_split_child_goes_left_agrees, (holds merge_across_parents_parent_merge merge_across_parents_parent_merge_agrees, (holds parent_share parent_share_agrees, (holds separator_two_levels_up separator_two_levels_up_agrees, (holds emptied_right_most_leaf_with_its_parent emptied_right_most_leaf_with_its_parent_agrees, (holds share_across_parents share_across_parents_agrees, (holds two_trees_take_and_give_by_turns two_trees_take_and_give_by_turns_agrees, tt))))))))))))
