-- What a call does that tests a line.
use Rattle.std.specs.Prelude.{◌≡◌, ◌<◌, Bool, Option, IfOk, IfSome, Result, length, option_map}
use Rattle.lk_tree.specs.Tree.{Tree}
use Rattle.lk_questions.specs.Tests.{passes}
use Rattle.lk_written.specs.Premises.{Left}
use Rattle.lk_store.specs.declared.memory.NoMemory.{NoMemory}
use Rattle.lk_store.specs.Contents.{Contents, Extends}
use Rattle.lk_premises.specs.Reading.{read_at}
use Rattle.lk_premises.specs.declared.premises.Read.{Read}

-- numbers stand for what they stood for, what no test changes is as it was, and the answer is
-- whether the test passes
pub record Tests {S R : Type 0} (contents : S → Contents) (standing : S → R) (old new : S)
    (result : Result Bool NoMemory) (test : Option (Unit {0})) : Type 0 where
  pub keeps : Extends (contents old) (contents new)
  pub stays : standing new ≡ standing old
  pub ok : IfOk result (λ b. b ≡ passes test)

-- the same where premises are read: the answer is the tree that was read, and the premises left
pub record ReadsTree {S R : Type 0} (contents : S → Contents) (standing : S → R) (old new : S)
    (result : Result (Option Read) NoMemory) (read : Option (Tree × Left)) : Type 0 where
  pub keeps : Extends (contents old) (contents new)
  pub stays : standing new ≡ standing old
  pub known : IfOk result (λ o. IfSome o (λ r. r.tree < length (contents new).trees))
  pub ok : IfOk result (λ o. read ≡ option_map (read_at (contents new)) o)
