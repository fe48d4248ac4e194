-- Types and constructors stay apart.
use Rattle.std.proofs.Common.{◌≡◌, sym, subst}
use Rattle.lk_tree.specs.Tree.{Name, Tree}
use Rattle.lk_rulebook.specs.Place.{Place}
use Rattle.lk_rulebook.specs.Names.{nat_succ}
use Rattle.lk_rulebook.specs.Formers.{IsFormer}
use Rattle.lk_rulebook.specs.Rules.{IsDefEq}
use Rattle.lk_meaning.specs.Rigid.{Heads, IsApplied, SameSpine}
use Rattle.lk_meaning.specs.Families.{IsFamily, IsChoice}
use Rattle.lk_meaning.proofs.Rigid.{one_head, former_first, former_second, applied_heads}
use Rattle.lk_meaning.proofs.Injective.{same_spine}
use Rattle.lk_meaning.proofs.Families.{family_rigid, choice_rigid, no_succ}

pub families : (w : Place) (J K : Name) (a b : Tree) → IsFamily w J → IsFamily w K → IsDefEq w a b → IsApplied J a → IsApplied K b → (J ≡ K) × SameSpine w a b
families w J K a b f g e s r =
    let i : J ≡ K = one_head (family_rigid w J f) (family_rigid w K g) e (applied_heads J a s) (applied_heads K b r) in
    (i, same_spine w J a b (family_rigid w J f) (no_succ w J f) e s (subst (λ X. IsApplied X b) (sym i) r))

pub family_first : (w : Place) (J : Name) (a b : Tree) → IsFamily w J → IsDefEq w a b → IsApplied J a → IsFormer b → ⊥
family_first w J a b f e s h = former_second (family_rigid w J f) e (applied_heads J a s) h

pub family_second : (w : Place) (J : Name) (a b : Tree) → IsFamily w J → IsDefEq w a b → IsFormer a → IsApplied J b → ⊥
family_second w J a b f e h s = former_first (family_rigid w J f) e h (applied_heads J b s)

pub choices : (w : Place) (c d : Name) (a b : Tree) → IsChoice w c → IsChoice w d → IsDefEq w a b → Heads c a → Heads d b → c ≡ d
choices w c d a b f g e h k = one_head (choice_rigid w c f) (choice_rigid w d g) e h k

pub choice_parts : (w : Place) (c : Name) (a b : Tree) → IsChoice w c → (c ≡ nat_succ → ⊥) → IsDefEq w a b → IsApplied c a → IsApplied c b → SameSpine w a b
choice_parts w c a b f x e s r = same_spine w c a b (choice_rigid w c f) (λ o. x) e s r
