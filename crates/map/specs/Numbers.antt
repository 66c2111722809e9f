-- DEFINITIONS. The promises of the public calls where an answer is handed out in document 01's numbers
use Rattle.std.specs.Prelude.{◌≡◌, List, ℕ}
use Rattle.forest.specs.Sizes.{leaf_least}
use Rattle.forest.specs.Pools.{Call}
use Rattle.forest.specs.Cursors.{Move}
use Rattle.forest.specs.Promises.{Calls, Moves}
use Rattle.forest.specs.Answers.{answer_of, Reply}
use Rattle.forest.specs.declared.Answer.{Answer}
use Rattle.forest.specs.declared.Cursor.{Cursor}

-- a call by key: a is the answer that its reply is
pub record AnswersCall (c : Call) (before after : List ℕ) (a : Answer) : Type 0 where
  pub reply : Reply
  pub promise : Calls leaf_least c before after reply
  pub numbered : a ≡ answer_of reply

-- the same of a cursor call
pub record AnswersMove (v : Move) (c : Cursor) (before after : List ℕ) (a : Answer) (d : Cursor) : Type 0 where
  pub reply : Reply
  pub promise : Moves leaf_least v c before after reply d
  pub numbered : a ≡ answer_of reply
