-- What waits for an answer, after units were looked at, and while a store grows.
use Rattle.std.proofs.Common.{◌≡◌, ℕ, Bool, List, [], ◌∷◌, length, Option, None, refl, ap, sym, ◌∙◌}
use Rattle.std.specs.Prelude.{All}
use Rattle.std.proofs.lemmas.List.Elements.{All-weaker, All-head, All-tail}
use Rattle.lk_tree.specs.Tree.{Tree}
use Rattle.lk_tree.specs.Spine.{head}
use Rattle.lk_rulebook.specs.Place.{Place}
use Rattle.lk_questions.specs.Erased.{Value, a_tree, truth, Steps, gives, erased, erased_then, finished, seen, run_steps, out_of}
use Rattle.lk_questions.specs.Program.{Program, ask, asked, ◌>>=◌}
use Rattle.lk_questions.proofs.Continuing.{then_is}
use Rattle.lk_questions.proofs.Erasing.{later_none, run_from}
use Rattle.lk_questions.specs.Core.{stepped, whnf_headed}
use Rattle.lk_questions.specs.Pairs.{answers, ◌or_else◌}
use Rattle.lk_questions.specs.Table.{steps}
use Rattle.lk_questions.specs.Query as plain
use Rattle.lk_store.specs.Contents.{Contents, tree_at, Extends}
use Rattle.lk_store.specs.Store.{contents_of}
use Rattle.lk_store.proofs.Extending.{Extends-trans}
use Rattle.lk_ask.specs.declared.sheet.Sheet.TheVariants as sheet
use Rattle.lk_ask.specs.Lines.{Rest}
use Rattle.lk_ask.proofs.Sheets.{grown}
use Rattle.lk_iota.specs.declared.sheet.IotaTermSheet.{IotaTermSheet}
use Rattle.lk_iota.specs.declared.sheet.IotaTermSheet.TheVariants as iota
use Rattle.lk_iota.specs.declared.sheet.IotaTruthSheet.{IotaTruthSheet}
use Rattle.lk_iota.specs.declared.sheet.IotaTruthSheet.TheVariants as iota_truth
use Rattle.lk_iota.specs.Expansions.{structure_rest, sort_rest as iota_sort}
use Rattle.lk_iota.specs.Redexes.{redex_at}
use Rattle.lk_iota.specs.Iotas as iotas
use Rattle.lk_quot.specs.declared.sheet.QuotSheet.{QuotSheet}
use Rattle.lk_quot.specs.declared.sheet.QuotSheet.TheVariants as quot
use Rattle.lk_quot.specs.Cores.{quot_term_rest}
use Rattle.lk_proj.specs.declared.sheet.CoreSheet.{CoreSheet as ReducedSheet}
use Rattle.lk_proj.specs.declared.sheet.CoreSheet.TheVariants as reduced
use Rattle.lk_proj.specs.Reductions.{core_rest as reduced_rest}
use Rattle.lk_proj.specs.declared.sheet.InferSheet.{InferSheet}
use Rattle.lk_proj.specs.declared.sheet.InferSheet.TheVariants as infer
use Rattle.lk_proj.specs.Infers.{subject_rest, sort_rest, field_sort_rest, infer_rest}
use Rattle.lk_lit.specs.declared.sheet.LitSheet.{LitSheet}
use Rattle.lk_lit.specs.Steps.{lit_rest, term_of, program_of}
use Rattle.lk_lit.specs.declared.sheet.LiteralsSheet.{LiteralsSheet}
use Rattle.lk_lit.specs.declared.sheet.LiteralsSheet.TheVariants as literals
use Rattle.lk_lit.specs.Literals.{literals_rest, left_line, right_line}
use Rattle.lk_core.specs.declared.sheet.CoreSheet.{CoreSheet}
use Rattle.lk_core.specs.declared.sheet.CoreSheet.TheVariants as core
use Rattle.lk_core.specs.Forms.{headed_rest, after_literal, unfolded_at, core_rest}
use Rattle.lk_type.specs.declared.sheet.TypeTermSheet.{TypeTermSheet}
use Rattle.lk_type.specs.declared.sheet.TypeTermSheet.TheVariants.{Passed, LamDomain, LamDomainSort}
use Rattle.lk_type.specs.declared.sheet.TypeTermSheet.TheVariants.{LamBody, PiDomain, PiDomainSort}
use Rattle.lk_type.specs.declared.sheet.TypeTermSheet.TheVariants.{TelescopeLocal, TelescopeDomain}
use Rattle.lk_type.specs.declared.sheet.TypeTermSheet.TheVariants.{TelescopeSort, TelescopeBody, PisSort}
use Rattle.lk_type.specs.Telescopes.{telescope_domain, telescope_sorted, telescope_end, pis_sorted}
use Rattle.lk_type.specs.declared.sheet.TypeTermSheet.TheVariants.{PiBody, PiBodySort, Function}
use Rattle.lk_type.specs.declared.sheet.TypeTermSheet.TheVariants.{FunctionForm, Argument, LetType}
use Rattle.lk_type.specs.declared.sheet.TypeTermSheet.TheVariants.{LetTypeSort, LetValue}
use Rattle.lk_type.specs.declared.sheet.TypeTruthSheet.{TypeTruthSheet}
use Rattle.lk_type.specs.declared.sheet.TypeTruthSheet.TheVariants.{ArgumentSame, LetValueSame}
use Rattle.lk_type.specs.Types.{type_term_rest, type_truth_rest, level_in, lam_sorted, pi_sorted}
use Rattle.lk_type.specs.Types.{pi_end, applied_rest, applied_argument, applied_end, let_sorted}
use Rattle.lk_type.specs.Types.{let_typed, let_end}
use Rattle.lk_lazy.specs.declared.sheet.LazySheet.{LazySheet}
use Rattle.lk_lazy.specs.declared.sheet.LazySheet.TheVariants as lazy
use Rattle.lk_lazy.specs.Lazies.{lazy_rest}
use Rattle.lk_eta.specs.declared.sheet.FunctionSheet.{FunctionSheet}
use Rattle.lk_eta.specs.declared.sheet.FunctionSheet.TheVariants as function
use Rattle.lk_eta.specs.declared.sheet.StructureTermSheet.{StructureTermSheet}
use Rattle.lk_eta.specs.declared.sheet.StructureTermSheet.TheVariants as structure
use Rattle.lk_eta.specs.declared.sheet.StructureTruthSheet.{StructureTruthSheet}
use Rattle.lk_eta.specs.declared.sheet.StructureTruthSheet.TheVariants as structures
use Rattle.lk_eta.specs.declared.sheet.UnitSheet.{UnitSheet}
use Rattle.lk_eta.specs.declared.sheet.UnitSheet.TheVariants as unit
use Rattle.lk_eta.specs.declared.sheet.EtaTermSheet.{EtaTermSheet}
use Rattle.lk_eta.specs.declared.sheet.EtaTermSheet.TheVariants as eta
use Rattle.lk_eta.specs.declared.sheet.EtaTruthSheet.{EtaTruthSheet}
use Rattle.lk_eta.specs.declared.sheet.EtaTruthSheet.TheVariants as etas
use Rattle.lk_eta.specs.Etas.{eta_term_rest, eta_truth_rest, then_structure, behind_way}
use Rattle.lk_eta.specs.Functions.{first_line, second_line, function_rest}
use Rattle.lk_eta.specs.Structures.{left_line as etas_left, right_line as etas_right}
use Rattle.lk_eta.specs.Structures.{constructor_at, structure_term_rest, structure_truth_rest}
use Rattle.lk_eta.specs.Units.{left_line as unit_left, unit_rest}
use Rattle.lk_same.specs.declared.sheet.ProofSheet.{ProofSheet}
use Rattle.lk_same.specs.declared.sheet.ProofSheet.TheVariants as proof
use Rattle.lk_same.specs.declared.sheet.SameTermSheet.{SameTermSheet}
use Rattle.lk_same.specs.declared.sheet.SameTermSheet.TheVariants as same
use Rattle.lk_same.specs.declared.sheet.SameTruthSheet.{SameTruthSheet}
use Rattle.lk_same.specs.declared.sheet.SameTruthSheet.TheVariants as same_truth
use Rattle.lk_same.specs.Sames.{same_term_rest, same_truth_rest, form_rest, types_rest, proof_rest}
use Rattle.lk_same.specs.Sames.{cores_rest, then_texts, then_unfolding}
use Rattle.lk_ask.specs.declared.query.Query.{Query}
use Rattle.lk_ask.specs.declared.query.Query.TheVariants as query
use Rattle.lk_ask.specs.declared.query.Answer.{Answer}
use Rattle.lk_ask.specs.declared.query.Answer.TheVariants as answer
use Rattle.lk_ask.specs.declared.kept.Kept.{Kept}
use Rattle.lk_ask.specs.Questions.{query_of, value_at, IsKnownQuery, IsKnownAnswer}
use Rattle.lk_memo.specs.declared.lasting.Lasting.{Lasting}
use Rattle.lk_memo.specs.declared.memo.PrivateMemo.{PrivateMemo}
use Rattle.lk_engine.specs.declared.answering.Frame.{Frame}
use Rattle.lk_engine.specs.Entries.{IsTrueAt, AreLasting, AreTrue}
use Rattle.lk_engine.specs.declared.sheet.TermSheet.{TermSheet}
use Rattle.lk_engine.specs.declared.sheet.TermSheet.TheVariants as term
use Rattle.lk_engine.specs.declared.sheet.TruthSheet.{TruthSheet}
use Rattle.lk_engine.specs.declared.sheet.TruthSheet.TheVariants as truths
use Rattle.lk_engine.specs.Sheets.{AnySheet}
use Rattle.lk_engine.specs.Rests.{term_rest, truth_rest, any_rest, IsKnownFrame, Linked}
use Rattle.lk_engine.proofs.Sheets.{any_steady, any_known}
use Rattle.lk_env.specs.StoredLibrary.{StoredLibrary}

module _ (w : Place) (last : Option ℕ) (b : ℕ) where
  -- it runs as from the beginning, with the last unit seen
  abbrev IsFrom : (Option ℕ → Steps) → Type 0
  IsFrom s = run_steps (out_of steps w) (s last) b ≡ seen last (run_steps (out_of steps w) (s None) b)

  from_gives : (v : Value) → IsFrom (λ t. gives t v)
  from_gives v = ap (finished v b) (sym (later_none last))

  from_program : {A : Type 0} (f : A → Value) (p : Program A) → IsFrom (λ t. erased w f t p)
  from_program f p = run_from steps w f last p b

  iota_term_from : (s : IotaTermSheet Tree) (v : Tree)
      → IsFrom (λ t. iotas.iota_term_rest w t s v)
  iota_term_from iota.Passed v = from_gives (a_tree v)
  iota_term_from (iota.MajorType e) v =
      from_program a_tree (ask (plain.whnf v) (λ T. iotas.type_rest w e (redex_at w e) T))
  iota_term_from (iota.MajorTypeForm e) v = from_program a_tree _
  iota_term_from (iota.Candidate e T d) v =
      from_program a_tree (ask (plain.same T v) (λ q. iotas.compared_rest e (redex_at w e) d q))
  iota_term_from (iota.Major e) v = from_program a_tree _
  iota_term_from (iota.StructureType e m) v =
      from_program a_tree (ask (plain.whnf v) (λ T. structure_rest w e (redex_at w e) m T))
  iota_term_from (iota.StructureTypeForm e m) v = from_program a_tree _
  iota_term_from (iota.StructureSort e m T) v =
      from_program a_tree (ask (plain.whnf v) (λ S. iota_sort w e (redex_at w e) m T S))
  iota_term_from (iota.StructureSortForm e m T) v = from_program a_tree _

  iota_truth_from : (s : IotaTruthSheet Tree) (q : Bool)
      → IsFrom (λ t. iotas.iota_truth_rest w t s q)
  iota_truth_from (iota_truth.CandidateSame e d) q = from_program a_tree _

  quot_from : (s : QuotSheet Tree) (v : Tree) → IsFrom (λ t. quot_term_rest w t s v)
  quot_from quot.Passed v = from_gives (a_tree v)
  quot_from (quot.Major e) v = from_program a_tree _

  reduced_from : (s : ReducedSheet Tree) (v : Tree) → IsFrom (λ t. reduced_rest w t s v)
  reduced_from reduced.Passed v = from_gives (a_tree v)
  reduced_from (reduced.Subject e) v = from_program a_tree _

  infer_from : (s : InferSheet Tree) (v : Tree) → IsFrom (λ t. infer_rest w t s v)
  infer_from (infer.Subject e) v =
      from_program a_tree (ask (plain.whnf v) (λ T. subject_rest e T))
  infer_from (infer.SubjectForm e) v = from_program a_tree _
  infer_from (infer.Sort a r) v =
      from_program a_tree (ask (plain.whnf v) (λ S. sort_rest a r S))
  infer_from (infer.SortForm a r) v = from_program a_tree _
  infer_from (infer.Parameter a x q) v = from_program a_tree _
  infer_from (infer.Field e j q) v = from_program a_tree _
  infer_from (infer.FieldSort a) v =
      from_program a_tree (ask (plain.whnf v) (λ S. field_sort_rest a S))
  infer_from (infer.FieldSortForm a) v = from_program a_tree _

  -- what goes on with the value of a program runs so too
  then_from : {R A : Type 0} (f : A → Value) (k : R → Program A) (p : Program R)
      → IsFrom (λ t. erased_then w (λ u r. erased w f u (k r)) t p)
  then_from f k p =
      ap (λ x. run_steps (out_of steps w) x b) (then_is w f k last p)
      ∙ from_program f (p >>= k)
      ∙ ap (λ x. seen last (run_steps (out_of steps w) x b)) (sym (then_is w f k None p))

  lit_from : (s : LitSheet Tree) (v : Tree) → IsFrom (λ t. lit_rest (after_literal w) w t s v)
  lit_from s v =
      let c = term_of s in
      then_from a_tree (λ r. stepped r (unfolded_at w c (head c))) (program_of s v)

  literals_from : (p : Rest) (s : LiteralsSheet Tree) (v : Tree)
      → IsFrom (λ t. literals_rest p w t s v)
  literals_from p (literals.Left x y s) v =
      then_from truth (λ r. left_line x y r or_else p x y) (program_of s v)
  literals_from p (literals.Right x y s) v =
      then_from truth (λ r. right_line x y r or_else p x y) (program_of s v)

  core_from : (s : CoreSheet Tree) (v : Tree) → IsFrom (λ t. core_rest w t s v)
  core_from core.Passed e = from_gives (a_tree e)
  core_from (core.Head a) e = from_program a_tree (headed_rest a e)
  core_from core.WhnfCore e = from_program a_tree (whnf_headed e (head e))
  core_from (core.Literal s) e = lit_from s e

  type_term_from : (s : TypeTermSheet Tree) (v : Tree) → IsFrom (λ t. type_term_rest w t s v)
  type_term_from Passed v = from_gives (a_tree v)
  type_term_from (LamDomain A e) v =
      from_program a_tree (ask (plain.whnf v) (λ S. lam_sorted A e S))
  type_term_from (LamDomainSort A e) v = from_program a_tree (lam_sorted A e v)
  type_term_from (LamBody A k) v = from_gives _
  type_term_from (PiDomain A e) v =
      from_program a_tree (ask (plain.whnf v) (λ S. pi_sorted A e S))
  type_term_from (PiDomainSort A e) v = from_program a_tree (pi_sorted A e v)
  type_term_from (PiBody u) v =
      from_program a_tree (ask (plain.whnf v) (λ S. pi_end (level_in u) S))
  type_term_from (PiBodySort u) v = from_program a_tree (pi_end (level_in u) v)
  type_term_from (TelescopeLocal s) v = from_program a_tree (telescope_domain s v)
  type_term_from (TelescopeDomain s) v =
      from_program a_tree (ask (plain.whnf v) (λ S. telescope_sorted s S))
  type_term_from (TelescopeSort s) v = from_program a_tree (telescope_sorted s v)
  type_term_from (TelescopeBody g us) v = from_program a_tree (telescope_end g us v)
  type_term_from (PisSort us s) v = from_program a_tree (pis_sorted us s v)
  type_term_from (Function a) v =
      from_program a_tree (ask (plain.whnf v) (λ S. applied_rest a S))
  type_term_from (FunctionForm a) v = from_program a_tree (applied_rest a v)
  type_term_from (Argument A e a) v = from_program a_tree (applied_argument A e a v)
  type_term_from (LetType A x e) v =
      from_program a_tree (ask (plain.whnf v) (λ S. let_sorted A x e S))
  type_term_from (LetTypeSort A x e) v = from_program a_tree (let_sorted A x e v)
  type_term_from (LetValue A x e) v = from_program a_tree (let_typed A x e v)

  type_truth_from : (s : TypeTruthSheet Tree) (q : Bool) → IsFrom (λ t. type_truth_rest w t s q)
  type_truth_from (ArgumentSame e a) q = from_program a_tree (applied_end e a q)
  type_truth_from (LetValueSame x e) q = from_program a_tree (let_end x e q)

  lazy_from : (s : LazySheet Tree) (q : Bool) → IsFrom (λ t. lazy_rest w t s q)
  lazy_from lazy.Passed q = from_gives (truth q)
  lazy_from (lazy.Arguments x y ps) q = from_program truth _

  module _ (p : Rest) where
    function_from : (s : FunctionSheet Tree) (v : Tree) → IsFrom (λ t. function_rest p w t s v)
    function_from (function.First x y) v =
        from_program truth (first_line x y v or_else p x y)
    function_from (function.FirstForm x y) v = from_program truth _
    function_from (function.Second x y) v =
        from_program truth (second_line x y v or_else p x y)
    function_from (function.SecondForm x y) v = from_program truth _

    structure_term_from : (s : StructureTermSheet Tree) (v : Tree)
        → IsFrom (λ t. structure_term_rest p w t s v)
    structure_term_from (structure.Left x y) v =
        from_program truth (etas_left x y (constructor_at w (head y)) v or_else p x y)
    structure_term_from (structure.Right x y A) v =
        from_program truth (etas_right x y (constructor_at w (head y)) A v or_else p x y)

    structure_truth_from : (s : StructureTruthSheet Tree) (q : Bool)
        → IsFrom (λ t. structure_truth_rest p w t s q)
    structure_truth_from (structures.Types x y) q = from_program truth _
    structure_truth_from (structures.Fields x y ps) q = from_program truth _

    unit_from : (s : UnitSheet Tree) (v : Tree) → IsFrom (λ t. unit_rest p w t s v)
    unit_from (unit.Left x y) v = from_program truth (unit_left x y v or_else p x y)
    unit_from (unit.LeftForm x y A) v = from_program truth _
    unit_from (unit.Right x y A) v =
        from_program truth (answers (asked (plain.same A v)) or_else p x y)

  eta_term_from : (p : Rest) (s : EtaTermSheet Tree) (v : Tree)
      → IsFrom (λ t. eta_term_rest p w t s v)
  eta_term_from p (eta.Function s) v = function_from (then_structure p) s v
  eta_term_from p (eta.Structure way s) v = structure_term_from (behind_way way p) s v
  eta_term_from p (eta.Unit s) v = unit_from p s v

  eta_truth_from : (p : Rest) (s : EtaTruthSheet Tree) (q : Bool)
      → IsFrom (λ t. eta_truth_rest p w t s q)
  eta_truth_from p (etas.Long x y) q = from_program truth _
  eta_truth_from p (etas.Structure way s) q = structure_truth_from (behind_way way p) s q
  eta_truth_from p etas.Passed q = from_gives (truth q)

  proof_from : (s : ProofSheet Tree) (v : Tree) → IsFrom (λ t. proof_rest w t s v)
  proof_from (proof.Left x y) A = from_program truth
      (ask (plain.infer A) (λ K. ask (plain.whnf K) (λ S. form_rest x y A S)))
  proof_from (proof.LeftSort x y A) K =
      from_program truth (ask (plain.whnf K) (λ S. form_rest x y A S))
  proof_from (proof.LeftSortForm x y A) S = from_program truth (form_rest x y A S)
  proof_from (proof.Right x y A) B =
      from_program truth (ask (plain.same A B) (λ q. types_rest x y q))

  same_term_from : (s : SameTermSheet Tree) (v : Tree) → IsFrom (λ t. same_term_rest w t s v)
  same_term_from (same.CoreLeft x y) v =
      from_program truth (ask (plain.core y) (λ e. cores_rest x y v e))
  same_term_from (same.CoreRight x y e) v = from_program truth _
  same_term_from (same.Proof s) v = proof_from s v
  same_term_from (same.Literals s) v = literals_from then_unfolding s v
  same_term_from (same.Eta s) v = eta_term_from then_texts s v

  same_truth_from : (s : SameTruthSheet Tree) (q : Bool) → IsFrom (λ t. same_truth_rest w t s q)
  same_truth_from same_truth.Passed q = from_gives (truth q)
  same_truth_from (same_truth.Domains A l r k) q = from_program truth _
  same_truth_from (same_truth.Parts x y ps) q = from_program truth _
  same_truth_from (same_truth.Subjects x y) q = from_program truth _
  same_truth_from (same_truth.Types x y) q = from_program truth _
  same_truth_from (same_truth.Lazy s) q = lazy_from s q
  same_truth_from (same_truth.Eta s) q = eta_truth_from then_texts s q

  term_from : (s : TermSheet Tree) (v : Tree) → IsFrom (λ t. term_rest w t s v)
  term_from (term.Core s) v = core_from s v
  term_from (term.Iota s) v = iota_term_from s v
  term_from (term.Quotient s) v = quot_from s v
  term_from (term.Reduced s) v = reduced_from s v
  term_from (term.Type s) v = type_term_from s v
  term_from (term.Projected s) v = infer_from s v
  term_from (term.Same s) v = same_term_from s v

  truth_from : (s : TruthSheet Tree) (q : Bool) → IsFrom (λ t. truth_rest w t s q)
  truth_from (truths.Iota s) q = iota_truth_from s q
  truth_from (truths.Type s) q = type_truth_from s q
  truth_from (truths.Same s) q = same_truth_from s q

  pub any_from : (s : AnySheet Tree) (v : Value) → run_steps (out_of steps w) (any_rest w last s v) b
      ≡ seen last (run_steps (out_of steps w) (any_rest w None s v) b)
  any_from (sheet.Term s) (a_tree v) = term_from s v
  any_from (sheet.Term s) (truth q) = refl
  any_from (sheet.Truth s) (a_tree v) = refl
  any_from (sheet.Truth s) (truth q) = truth_from s q

module _ {c d : Contents} (x : Extends c d) where
  pub query_steady : (q : Query ℕ) → IsKnownQuery (length c.trees) q → query_of (tree_at d) q ≡ query_of (tree_at c) q
  query_steady (query.Core e) h = ap plain.core (x.trees.same e h)
  query_steady (query.Whnf e) h = ap plain.whnf (x.trees.same e h)
  query_steady (query.Infer e) h = ap plain.infer (x.trees.same e h)
  query_steady (query.Same a b) h = let p = x.trees.same a h.0 in let q = x.trees.same b h.1 in cc

  pub query_known : (q : Query ℕ) → IsKnownQuery (length c.trees) q → IsKnownQuery (length d.trees) q
  query_known (query.Core e) h = grown x e h
  query_known (query.Whnf e) h = grown x e h
  query_known (query.Infer e) h = grown x e h
  query_known (query.Same a b) h = (grown x a h.0, grown x b h.1)

  pub answer_steady : (v : Answer ℕ) → IsKnownAnswer (length c.trees) v → value_at (tree_at d) v ≡ value_at (tree_at c) v
  answer_steady (answer.Term e) h = ap a_tree (x.trees.same e h)
  answer_steady (answer.Truth b) h = refl

  pub answer_known : (v : Answer ℕ) → IsKnownAnswer (length c.trees) v → IsKnownAnswer (length d.trees) v
  answer_known (answer.Term e) h = grown x e h
  answer_known (answer.Truth b) h = tt

  frame_known : (f : Frame) → IsKnownFrame (length c.trees) f → IsKnownFrame (length d.trees) f
  frame_known f h = record { asker = query_known f.asker h.asker; sheet = any_known x f.sheet h.sheet }

  pub stack_known : (fs : List Frame) → All (IsKnownFrame (length c.trees)) fs → All (IsKnownFrame (length d.trees)) fs
  stack_known fs h = All-weaker (IsKnownFrame (length c.trees)) (IsKnownFrame (length d.trees)) frame_known fs h

  -- questions that wait hang together as before
  pub links_steady : (w : Place) (q : plain.Query) (b : ℕ) (fs : List Frame) (asked : plain.Query) (left : ℕ) → All (IsKnownFrame (length c.trees)) fs → Linked w (tree_at c) q b fs asked left → Linked w (tree_at d) q b fs asked left
  links_steady w q b [] asked left k h = h
  links_steady w q b (f ∷ fs) asked left k h =
      let first = All-head (IsKnownFrame (length c.trees)) f fs k in
      (rw (query_steady f.asker first.asker) h.0, h.1, (h.2.0, h.2.1, rw (any_steady x f.sheet first.sheet) h.2.2, rw (any_steady x f.sheet first.sheet) h.2.3, links_steady w h.2.0 h.2.1 fs asked left (All-tail (IsKnownFrame (length c.trees)) f fs k) h.2.4))

  -- what is true stays true
  pub true_steady : (w : Place) (q : Query ℕ) (kept : Kept) → IsTrueAt w c q kept → IsTrueAt w d q kept
  true_steady w q kept was = record {
    query = query_known q was.query;
    answer = answer_known kept.answer was.answer;
    is = rw (query_steady q was.query, answer_steady kept.answer was.answer) was.is;
  }

  -- what a table keeps stays true
  table_steady : (l : StoredLibrary) (w : Place) (first : Contents) (table : Lasting)
      → AreLasting l w c first table → AreLasting l w d first table
  table_steady l w first table h = record {
    each = h.each;
    terms = h.terms;
    stand = Extends-trans first c d h.stand x;
    looks = h.looks;
  }

  -- what is kept stays true
  pub entries_steady : (l : StoredLibrary) (w : Place) (memo : PrivateMemo) → AreTrue l w c memo
      → AreTrue l w d memo
  entries_steady l w memo h = record {
    each = λ q kept holds. true_steady w q kept (h.each q kept holds);
    lasting = table_steady l w (contents_of l.tables) memo.lasting h.lasting;
    first = h.first;
    staying = table_steady l w h.first memo.staying h.staying;
  }
