-- The members of a block state the same counts.
use Rattle.std.proofs.Common.{ℕ, suc, ◌≡◌, true, ◌&&◌, nat_eq, List, [], ◌∷◌, refl, arith}
use Rattle.std.proofs.lemmas.Bool.Decides.{nat_tests}
use Rattle.lk_tree.specs.Tree.{Name}
use Rattle.lk_tree.specs.declared.rule.Rule.TheVariants.{BlockShape}
use Rattle.lk_rulebook.specs.Place.{Place, Block, BlockType, Ctor}
use Rattle.lk_tree.specs.Mentions.{same_name}
use Rattle.lk_questions.specs.Program.{done}
use Rattle.lk_questions.specs.Sound.{IsSound}
use Rattle.lk_questions.specs.Declarations.{checked}
use Rattle.lk_claims.proofs.Pieces.{sound_given}
use Rattle.lk_inductive.specs.Block.{levels_of, parameters_of}
use Rattle.lk_inductive.specs.Relation.{CtorAgrees, CtorsAgree, TypesAgree, CountsAgree}
use Rattle.lk_inductive.specs.BlockSteps.{same_names, ctor_agrees, ctors_agree, types_agree, counts_steps}
use Rattle.lk_sound.proofs.Positive.{name_of, and_both}

same_number : (m n : ℕ) → nat_eq m n ≡ true → m ≡ n
same_number m n h = grind (arith, nat_tests)

pub names_of : (ms ns : List Name) → same_names ms ns ≡ true → ms ≡ ns
names_of [] [] h = refl
names_of [] (n ∷ ns) h = absurd cc
names_of (m ∷ ms) [] h = absurd cc
names_of (m ∷ ms) (n ∷ ns) h =
    let t : (same_name m n ≡ true) × (same_names ms ns ≡ true) = and_both (same_name m n) (same_names ms ns) h in
    let a : m ≡ n = name_of m n t.0 in
    let b : ms ≡ ns = names_of ms ns t.1 in cc

ctor_right : (p : ℕ) (us : List Name) (T : Name) (i : ℕ) (c : Ctor) → ctor_agrees p us T i c ≡ true → CtorAgrees p us T i c
ctor_right p us T i c h =
    let t : ((same_names c.levels us && nat_eq c.parameters p) ≡ true) × ((same_name c.parent T && nat_eq c.place i) ≡ true) = and_both (same_names c.levels us && nat_eq c.parameters p) (same_name c.parent T && nat_eq c.place i) h in
    let a : (same_names c.levels us ≡ true) × (nat_eq c.parameters p ≡ true) = and_both (same_names c.levels us) (nat_eq c.parameters p) t.0 in
    let b : (same_name c.parent T ≡ true) × (nat_eq c.place i ≡ true) = and_both (same_name c.parent T) (nat_eq c.place i) t.1 in record {
      levels = names_of c.levels us a.0;
      parameters = same_number c.parameters p a.1;
      parent = name_of c.parent T b.0;
      place = same_number c.place i b.1;
    }

ctors_right : (p : ℕ) (us : List Name) (T : Name) (i : ℕ) (cs : List Ctor) → ctors_agree p us T i cs ≡ true → CtorsAgree p us T i cs
ctors_right p us T i [] h = tt
ctors_right p us T i (c ∷ cs) h =
    let t : (ctor_agrees p us T i c ≡ true) × (ctors_agree p us T (suc i) cs ≡ true) = and_both (ctor_agrees p us T i c) (ctors_agree p us T (suc i) cs) h in
    (ctor_right p us T i c t.0, ctors_right p us T (suc i) cs t.1)

types_right : (p : ℕ) (us : List Name) (ts : List BlockType) → types_agree p us ts ≡ true → TypesAgree p us ts
types_right p us [] h = tt
types_right p us (t ∷ ts) h =
    let a : (((same_names t.levels us && nat_eq t.parameters p) && ctors_agree p us t.name 0 t.ctors) ≡ true) × (types_agree p us ts ≡ true) =
    and_both ((same_names t.levels us && nat_eq t.parameters p) && ctors_agree p us t.name 0 t.ctors) (types_agree p us ts) h in
    let b : ((same_names t.levels us && nat_eq t.parameters p) ≡ true) × (ctors_agree p us t.name 0 t.ctors ≡ true) =
    and_both (same_names t.levels us && nat_eq t.parameters p) (ctors_agree p us t.name 0 t.ctors) a.0 in
    let c : (same_names t.levels us ≡ true) × (nat_eq t.parameters p ≡ true) = and_both (same_names t.levels us) (nat_eq t.parameters p) b.0 in
    ((names_of t.levels us c.0, same_number t.parameters p c.1, ctors_right p us t.name 0 t.ctors b.1), types_right p us ts a.1)

pub sound_counts : (w : Place) (b : Block) → IsSound w (counts_steps b) (λ y. CountsAgree b)
sound_counts w b =
    sound_given w (types_agree (parameters_of b) (levels_of b) b.types) BlockShape (done checked) (λ y. CountsAgree b) (λ h. types_right (parameters_of b) (levels_of b) b.types h)
