-- Structure eta is sound.
use Rattle.std.proofs.Common.{ℕ, suc, ◌≡◌, ◌+◌, Bool, true, false, ◌&&◌, nat_eq, length, take, drop, List, [], ◌∷◌, ◌++◌, Option, Some, None, refl, ◌∙◌, arith, take-append-drop, length-drop}
use Rattle.std.proofs.lemmas.Bool.Decides.{nat_tests}
use Rattle.lk_tree.specs.Tree.{Name, Tree, const}
use Rattle.lk_tree.specs.Spine.{apply, head, args, IsHeadNormal}
use Rattle.lk_tree.specs.WellFormed.{IsWellFormed, AllWellFormed}
use Rattle.lk_tree.proofs.Spines.{well_formed_of_apply}
use Rattle.lk_tree.proofs.Lists.{fine_drop, length_taken}
use Rattle.lk_table_sound.proofs.Book.{Book, StructureAt, HasType, IsDefEq, e_struct_left, e_struct_right, IsByFields, by_fields, ProjectionsEqual, no_more_fields, project, well_formed_of_type, IsSound, WellStated}
use Rattle.lk_rulebook.specs.Structures.{is_structure_like}
use Rattle.lk_questions.specs.Program.{done}
use Rattle.lk_questions.specs.Iota.{CtorApp, ctor_app_of, has_one_ctor}
use Rattle.lk_questions.specs.Pairs.{goes_on}
use Rattle.lk_questions.specs.Eta.{same_fields, eta_struct, by_structure_eta}
use Rattle.lk_questions.specs.Sound.{IfYes}
use Rattle.lk_table_sound.proofs.Soundness.{sound_bind, sound_map}
use Rattle.lk_claims.proofs.Pieces.{of_yes, if_yes_map}
use Rattle.lk_table_sound.proofs.Goes.{sound_if}
use Rattle.lk_claims.proofs.Facts.{IfAnswers}
use Rattle.lk_table_sound.proofs.Lines.{SoundLine, sound_answers_yes}
use Rattle.lk_table_sound.proofs.Iotas.{IsCtorApp, IfCtorApp, sound_ctor_app_of}
use Rattle.lk_claims.proofs.Facts.{the_ctor, listed_of}

sound_fields : (w : Book) (J : Name) (a : Tree) → IsWellFormed a → (j : ℕ) (xs : List Tree) → AllWellFormed xs → IsSound w (same_fields J a j xs) (λ e. IfYes e (ProjectionsEqual w J a j xs))
sound_fields w J a fa j [] f = no_more_fields
sound_fields w J a fa j (x ∷ xs) f = (
  (fa, f.0),
  λ equal m. sound_if w equal (same_fields J a (suc j) xs) (done false) (λ e. IfYes e (ProjectionsEqual w J a j (x ∷ xs)))
      (λ t. sound_map w (same_fields J a (suc j) xs) (λ e. IfYes e (ProjectionsEqual w J a (suc j) xs)) (λ e. IfYes e (ProjectionsEqual w J a j (x ∷ xs)))
      (λ e. if_yes_map e (project (of_yes equal t m))) (sound_fields w J a fa (suc j) xs f.1))
      (λ t. tt),
)

and_two : (a b : Bool) → (a && b) ≡ true → (a ≡ true) × (b ≡ true)
and_two true true h = (refl, refl)
and_two true false h = absurd cc
and_two false b h = absurd cc

eta_ext : (w : Book) → WellStated w → (a b : Tree) → IsHeadNormal a → (k : CtorApp) → IsCtorApp w b k →
    (nat_eq (length k.args) (k.ctor.parameters + k.ctor.fields) && (has_one_ctor k.ind.ctors && is_structure_like k.block k.ind k.ctor)) ≡ true →
    (A B : Tree) → HasType w a A → HasType w b B → IsDefEq w A B → ProjectionsEqual w k.ind.name a 0 (drop k.ctor.parameters k.args) → IsDefEq w a b × IsDefEq w b a
eta_ext w ok a b na k j y A B ha hb q all =
    let p : ℕ = k.ctor.parameters in
    let tests : (nat_eq (length k.args) (p + k.ctor.fields) ≡ true) × ((has_one_ctor k.ind.ctors && is_structure_like k.block k.ind k.ctor) ≡ true) =
    and_two (nat_eq (length k.args) (p + k.ctor.fields)) (has_one_ctor k.ind.ctors && is_structure_like k.block k.ind k.ctor) y in
    let more : (has_one_ctor k.ind.ctors ≡ true) × (is_structure_like k.block k.ind k.ctor ≡ true) = and_two (has_one_ctor k.ind.ctors) (is_structure_like k.block k.ind k.ctor) tests.1 in
    let count : length k.args ≡ p + k.ctor.fields = grind (arith, nat_tests, tests.0) in
    let t : b ≡ apply (const k.name k.levels) k.args = j.tree_is in
    let parts : take p k.args ++ drop p k.args ≡ k.args = take-append-drop p k.args in
    let u : b ≡ apply (const k.name k.levels) (take p k.args ++ drop p k.args) = rw parts t in
    let hk : HasType w (apply (const k.name k.levels) (take p k.args ++ drop p k.args)) B = rw u at hb in
    let m : length (take p k.args) ≡ p = length_taken p k.args (omega (arith, count)) in
    let n : length (drop p k.args) ≡ k.ctor.fields = length-drop p k.args ∙ omega (arith, count) in
    let S : StructureAt w = record {
      structure = record {
        ctor_name = k.name;
        block = k.block;
        ind = k.ind;
        ctor = k.ctor;
        one_ctor = the_ctor k.ctor k.ind.ctors more.0 (listed_of k.entry k.block k.ind k.ctor j.kind (ok k.name k.entry j.given).1);
        like = more.1;
        entry = k.entry;
        given = j.given;
        kind = j.kind;
      };
      levels = k.levels;
      params = take p k.args;
      params_are = m;
    } in
    let h : IsByFields w S (drop p k.args) a = by_fields n ha hk q all in
    (rw u (e_struct_left S (drop p k.args) na h), rw u (e_struct_right S (drop p k.args) na h))

sound_eta_struct : (w : Book) → WellStated w → (a b : Tree) → IsWellFormed a → IsWellFormed b → IsHeadNormal a → (o : Option CtorApp) → IfCtorApp w b o → (C : Type 0) → (IsDefEq w a b × IsDefEq w b a → C) → SoundLine w (eta_struct a b o) C
sound_eta_struct w ok a b fa fb na None j C h = tt
sound_eta_struct w ok a b fa fb na (Some k) j C h =
    let test : Bool = nat_eq (length k.args) (k.ctor.parameters + k.ctor.fields) && (has_one_ctor k.ind.ctors && is_structure_like k.block k.ind k.ctor) in
    let p : ℕ = k.ctor.parameters in
    let t : b ≡ apply (const k.name k.levels) k.args = j.tree_is in
    let fx : AllWellFormed k.args = (well_formed_of_apply (const k.name k.levels) k.args (rw t at fb)).1 in
    sound_if w test _ goes_on (λ o. IfAnswers o C)
    (λ y. (
      fa,
      λ A mA. (
        fb,
        λ B mB. (
          ((well_formed_of_type mA.0).1, (well_formed_of_type mB.0).1),
          λ equal mE.
              sound_if w equal _ goes_on (λ o. IfAnswers o C)
              (λ z. sound_answers_yes w (same_fields k.ind.name a 0 (drop p k.args)) C
              (sound_map w (same_fields k.ind.name a 0 (drop p k.args)) (λ e. IfYes e (ProjectionsEqual w k.ind.name a 0 (drop p k.args))) (λ e. IfYes e C)
              (λ e. if_yes_map e (λ all. h (eta_ext w ok a b na k j y A B mA.0 mB.0 (of_yes equal z mE) all)))
              (sound_fields w k.ind.name a fa 0 (drop p k.args) (fine_drop p k.args fx))))
              (λ z. tt),
        ),
      ),
    ))
    (λ y. tt)

pub sound_by_structure_eta : (w : Book) → WellStated w → (a b : Tree) → IsWellFormed a → IsWellFormed b → IsHeadNormal a → (C : Type 0) → (IsDefEq w a b × IsDefEq w b a → C) → SoundLine w (by_structure_eta a b) C
sound_by_structure_eta w ok a b fa fb na C h =
    sound_bind w (ctor_app_of (head b) (args b)) (λ k. eta_struct a b k) (IfCtorApp w b) (λ o. IfAnswers o C) (sound_ctor_app_of w b)
    (λ k j. sound_eta_struct w ok a b fa fb na k j C h)
