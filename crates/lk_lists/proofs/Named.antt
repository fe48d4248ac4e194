-- Names that were compared.
use Rattle.std.proofs.Common.{◌≡◌, Bool, true, false, refl, ◌↔◌, IsTrue}
use Rattle.lk_tree.specs.Tree.{Name, name_discrete}
use Rattle.lk_tree.specs.Mentions.{same_name}

-- a test of two names decides as the definition does
pub name_decides : (r : Bool) (m n : Name) → (IsTrue r ↔ (m ≡ n)) → r ≡ same_name m n
name_decides r m n h = go r (name_discrete m n) h
  where
    go : (s : Bool) (d : Dec (m ≡ n)) → (IsTrue s ↔ (m ≡ n)) → s ≡ elim d [ yes e ↦ true | no f ↦ false ]
    go true (yes e) i = refl
    go true (no f) i = absurd (f (i.0 refl))
    go false (yes e) i = i.1 e
    go false (no f) i = refl
