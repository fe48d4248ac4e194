-- Constructors' types at levels and arguments, one after another.
use Rattle.std.proofs.Common.{◌≡◌, List, [], ◌∷◌, ◌++◌, length, map, refl, sym, ap, ◌∙◌, append_assoc, true, arith}
use Rattle.std.specs.Prelude.{nat_eq}
use Rattle.std.proofs.lemmas.Bool.Decides.{nat_tests}
use Rattle.std.proofs.lemmas.List.{append-nil, length-map}
use Rattle.lk_tree.specs.Tree.{Name, Level, Tree}
use Rattle.lk_tree.specs.Levels.{put_levels}
use Rattle.lk_tree.specs.declared.rule.Rule.TheVariants.{LevelCount, BlockShape}
use Rattle.lk_questions.specs.Steps.{given}
use Rattle.lk_tree.specs.declared.rule.Rule.{Rule}
use Rattle.lk_rulebook.specs.Place.{Ctor}
use Rattle.lk_questions.specs.Program.{done, refuse, ◌>>=◌}
use Rattle.lk_inductive.specs.Nested.{has_pis, past_pis, at_args, ctors_at}
use Rattle.lk_auxiliary.proofs.Pasts.{bind_ext, bind_assoc, bind_done}

-- those of cs are, after these, those of ds
abbrev pub LeadsAt : List Level → List Tree → List Ctor → List Tree → List Ctor → Type 0
LeadsAt ls bs cs found ds = ctors_at ls bs cs ≡ (ctors_at ls bs ds >>= λ rs. done (found ++ rs))

module _ (ls : List Level) (bs : List Tree) (cs : List Ctor) where
  pub at_first : LeadsAt ls bs cs [] cs
  at_first = sym (bind_done (ctors_at ls bs cs) (λ rs. done ([] ++ rs)) (λ rs. refl))

  module _ (found : List Tree) (ds : List Ctor) (so_far : LeadsAt ls bs cs found ds) where
    pub at_next : (d : Ctor) (more : List Ctor) (pushed : List Tree) (r : Tree) → ds ≡ d ∷ more → pushed ≡ found ++ r ∷ [] → at_args ls bs d.levels d.type ≡ done r → LeadsAt ls bs cs pushed more
    at_next d more pushed r split push made =
        so_far
        ∙ ap (λ x. ctors_at ls bs x >>= λ rs. done (found ++ rs)) split
        ∙ ap (λ p. p >>= (λ y. ctors_at ls bs more >>= λ rs. done (y ∷ rs)) >>= λ rs. done (found ++ rs)) made
        ∙ bind_assoc (ctors_at ls bs more) (λ rs. done (r ∷ rs)) (λ rs. done (found ++ rs))
        ∙ bind_ext (ctors_at ls bs more) (λ rs. done (found ++ r ∷ rs)) (λ rs. done (pushed ++ rs)) (λ rs. ap done (sym (ap (λ x. x ++ rs) push ∙ append_assoc found (r ∷ []) rs)))

    pub at_refused : (d : Ctor) (more : List Ctor) (rule : Rule) → ds ≡ d ∷ more → at_args ls bs d.levels d.type ≡ refuse rule → ctors_at ls bs cs ≡ refuse rule
    at_refused d more rule split made =
        so_far
        ∙ ap (λ x. ctors_at ls bs x >>= λ rs. done (found ++ rs)) split
        ∙ ap (λ p. p >>= (λ y. ctors_at ls bs more >>= λ rs. done (y ∷ rs)) >>= λ rs. done (found ++ rs)) made

    pub at_end : ds ≡ [] → ctors_at ls bs cs ≡ done found
    at_end none = so_far ∙ ap (λ x. ctors_at ls bs x >>= λ rs. done (found ++ rs)) none ∙ ap done (append-nil found)

-- where the counts agree and the Pis stand there
pub at_args_is : (ls : List Level) (bs : List Tree) (us : List Name) (e : Tree) → nat_eq (length ls) (length us) ≡ true → has_pis (length bs) e ≡ true → at_args ls bs us e ≡ past_pis bs (put_levels us ls e)
at_args_is ls bs us e counts pis =
    ap (λ b. given b LevelCount (given (has_pis (length bs) e) BlockShape (past_pis bs (put_levels us ls e)))) counts ∙ ap (λ b. given b BlockShape (past_pis bs (put_levels us ls e))) pis

pub counts_agree : {A B C D : Type 0} (f : A → B) (g : C → D) (xs : List A) (ys : List C) → length xs ≡ length ys → nat_eq (length (map f xs)) (length (map g ys)) ≡ true
counts_agree f g xs ys same = let a = length-map xs f in let b = length-map ys g in grind (arith, nat_tests)
