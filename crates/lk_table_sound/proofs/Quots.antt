-- Core of Quot.lift and Quot.ind is sound.
use Rattle.std.proofs.Common.{◌≡◌, inl, inr, List, [], ◌∷◌, Some, sym, subst}
use Rattle.lk_tree.specs.Tree.{Name, Level, Tree, const, app}
use Rattle.lk_tree.specs.Spine.{apply, head, args}
use Rattle.lk_tree.specs.WellFormed.{IsWellFormed, AllWellFormed}
use Rattle.lk_tree.proofs.Within.{apply_head_args}
use Rattle.lk_table_sound.proofs.Book.{Book, IsQuot, r_quot_lift, r_quot_ind, well_formed_of_reduct, IsSound, IsJustified}
use Rattle.lk_rulebook.specs.Place.{Entry, a_quot}
use Rattle.lk_rulebook.specs.Names.{quot_mk, quot_lift, quot_ind}
use Rattle.lk_tree.specs.Mentions.{same_name}
use Rattle.lk_questions.specs.Query.{core}
use Rattle.lk_questions.specs.Program.{done, asked}
use Rattle.lk_questions.specs.Quotients.{by_quot, at_mk, at_major, core_lift, core_ind, core_quot}
use Rattle.lk_claims.proofs.Pieces.{same_name_right}
use Rattle.lk_table_sound.proofs.Goes.{sound_if, GoesTo, core_stays, core_on, goes_applied}
use Rattle.lk_claims.proofs.Facts.{IsCore}
use Rattle.lk_claims.proofs.Facts.{quot_kind}

-- what the major premise going to Quot.mk makes of the redex q
abbrev Takes : Book → Tree → Tree → Tree → Type 0
Takes w major f q = (ks : List Level) (A r a : Tree) → IsQuot w quot_mk → GoesTo w major (apply (const quot_mk ks) (A ∷ r ∷ a ∷ [])) → GoesTo w q (app f a)

sound_at_mk : (w : Book) (e f major q m : Tree) (rest : List Tree) → apply q rest ≡ e → IsCore e → AllWellFormed rest → Takes w major f q → GoesTo w major m →
    (h : Tree) (xs : List Tree) → apply h xs ≡ m → IsSound w (at_mk e f rest h xs) (IsJustified w (core e))
sound_at_mk w e f major q m rest eq fe fr t g (const c ks) (A ∷ r ∷ a ∷ []) i =
    sound_if w (same_name c quot_mk) _ (done e) (IsJustified w (core e))
    (λ y. let n : c ≡ quot_mk = same_name_right c quot_mk y in
    λ d there. sound_if w (by_quot d.kind) (asked (core (apply (app f a) rest))) (done e) (IsJustified w (core e))
    (λ z. let j : apply (const quot_mk ks) (A ∷ r ∷ a ∷ []) ≡ m = rw n at i in
    let k : GoesTo w q (app f a) = t ks A r a (record { entry = d; given = there; kind = quot_kind d.kind z }) (subst (λ x. GoesTo w major x) (sym j) g) in
    let l : GoesTo w (apply q rest) (apply (app f a) rest) = goes_applied w q (app f a) rest fr k in
    ((well_formed_of_reduct l.0).1, λ v n. rw (← eq) (core_on w (apply q rest) (apply (app f a) rest) v l n)))
    (λ z. core_stays w e fe))
    (λ y. core_stays w e fe)
sound_at_mk w e f major q m rest eq fe fr t g _ _ i = core_stays w e fe

sound_at_major : (w : Book) (e f major q : Tree) (rest : List Tree) → apply q rest ≡ e → IsCore e → IsWellFormed major → AllWellFormed rest → Takes w major f q → IsSound w (at_major e f major rest) (IsJustified w (core e))
sound_at_major w e f major q rest eq fe fm fr t = (fm, λ m g. sound_at_mk w e f major q m rest eq fe fr t g (head m) (args m) (apply_head_args m))

sound_lift : (w : Book) (e : Tree) (ls : List Level) (xs : List Tree) → apply (const quot_lift ls) xs ≡ e → IsCore e → AllWellFormed xs → IsQuot w quot_lift → IsSound w (core_lift e xs) (IsJustified w (core e))
sound_lift w e ls (A ∷ r ∷ B ∷ f ∷ h ∷ major ∷ rest) eq fe fx i =
    sound_at_major w e f major (apply (const quot_lift ls) (A ∷ r ∷ B ∷ f ∷ h ∷ major ∷ [])) rest eq fe fx.1.1.1.1.1.0 fx.1.1.1.1.1.1
    (λ ks A' r' a j g. (
      r_quot_lift ls ks i j (fx.0, (fx.1.0, (fx.1.1.0, (fx.1.1.1.0, (fx.1.1.1.1.0, tt))))) g.0,
      λ k T. elim [ inl x ↦ inl (inl (inr x)) | inr x ↦ inr (g.1 k T (inr x)) ],
    ))
sound_lift w e ls _ eq fe fx i = core_stays w e fe

sound_ind : (w : Book) (e : Tree) (ls : List Level) (xs : List Tree) → apply (const quot_ind ls) xs ≡ e → IsCore e → AllWellFormed xs → IsQuot w quot_ind → IsSound w (core_ind e xs) (IsJustified w (core e))
sound_ind w e ls (A ∷ r ∷ B ∷ h ∷ major ∷ rest) eq fe fx i =
    sound_at_major w e h major (apply (const quot_ind ls) (A ∷ r ∷ B ∷ h ∷ major ∷ [])) rest eq fe fx.1.1.1.1.0 fx.1.1.1.1.1
    (λ ks A' r' a j g. (
      r_quot_ind ls ks i j (fx.0, (fx.1.0, (fx.1.1.0, (fx.1.1.1.0, tt)))) g.0,
      λ k T. elim [ inl x ↦ inl (inr x) | inr x ↦ inr (g.1 k T (inr x)) ],
    ))
sound_ind w e ls _ eq fe fx i = core_stays w e fe

pub sound_core_quot : (w : Book) (c : Name) (ls : List Level) (g : Entry) → w.place.means c ≡ Some g → g.kind ≡ a_quot →
    (e : Tree) (xs : List Tree) → apply (const c ls) xs ≡ e → IsCore e → AllWellFormed xs → IsSound w (core_quot e c xs) (IsJustified w (core e))
sound_core_quot w c ls g m k e xs eq fe fx =
    sound_if w (same_name c quot_lift) (core_lift e xs) _ (IsJustified w (core e))
    (λ y. let n : c ≡ quot_lift = same_name_right c quot_lift y in
    sound_lift w e ls xs (rw n at eq) fe fx (record { entry = g; given = rw n at m; kind = k }))
    (λ y. sound_if w (same_name c quot_ind) (core_ind e xs) (done e) (IsJustified w (core e))
    (λ z. let n : c ≡ quot_ind = same_name_right c quot_ind z in
    sound_ind w e ls xs (rw n at eq) fe fx (record { entry = g; given = rw n at m; kind = k }))
    (λ z. core_stays w e fe))
