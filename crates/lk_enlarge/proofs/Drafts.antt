-- Auxiliary types as the definitions make them, by what they are made of.
use Rattle.std.proofs.Common.{◌≡◌, ℕ, suc, List, [], ◌∷◌, ◌++◌, Option, Some, None, refl, sym, ap, ◌∙◌}
use Rattle.std.proofs.lemmas.List.{append-nil}
use Rattle.lk_tree.specs.Tree.{Tree}
use Rattle.lk_tree.specs.declared.rule.Rule.TheVariants.{NestedForm}
use Rattle.lk_rulebook.specs.Place.{Place, Ctor, BlockType}
use Rattle.lk_questions.specs.Program.{Program, done, ◌>>=◌}
use Rattle.lk_ask.specs.declared.stop.Stop.{Stop}
use Rattle.lk_ask.specs.declared.stop.Stop.TheVariants.{No, Spent, NoMemory}
use Rattle.lk_inductive.specs.Enlarged.{Aux, Setting, aux_from}
use Rattle.lk_inductive.specs.Nested.{nest, aux_ctors, next_aux, aux_types, aux_type}
use Rattle.lk_nested.specs.Findings.{found, refused, finding, FindsNothing}
use Rattle.lk_auxiliary.proofs.Pasts.{bind_ext, bind_assoc}
use Rattle.lk_nested.proofs.Thens.{then_found, bind_found}
use Rattle.lk_nested.specs.Joined.{nests}
use Rattle.lk_enlarge.specs.Each.{each}
use Rattle.lk_enlarge.specs.Drafts.{PlainDraft, PlainOutline, drafts_of, outline_of}
use Rattle.lk_enlarge.specs.DraftsNested.{drafted, outlined, nest_draft, nest_outline, next_by, nest_next}
use Rattle.lk_enlarge.specs.DraftsNested.{draft_nests, drafts_nest, outline_nests, next_nests}
use Rattle.lk_enlarge.proofs.Each.{behind, behind_none, behind_one}

module _ (s : Setting) (i : ℕ) where
  keep_draft : PlainDraft → Tree × List Aux → Program (Ctor × List Aux)
  keep_draft d e = done (drafted s i d e.0, e.1)

  pub ctors_each : (cs : List Ctor) (rs : List Tree) (as_ : List Aux) → aux_ctors s i cs rs as_ ≡ each (nest_draft s i) (drafts_of cs rs) as_
  ctors_each [] rs as_ = refl
  ctors_each (c ∷ cs) [] as_ = refl
  ctors_each (c ∷ cs) (r ∷ rs) as_ =
      let d : PlainDraft = record { name = c.name; place = c.place; fields = c.fields; type = r } in
      bind_ext (nest s r as_) (λ e. aux_ctors s i cs rs e.1 >>= λ ds. done (drafted s i d e.0 ∷ ds.0, ds.1)) (λ e. each (nest_draft s i) (drafts_of cs rs) e.1 >>= λ ds. done (drafted s i d e.0 ∷ ds.0, ds.1))
      (λ e. ap (λ p. p >>= λ ds. done (drafted s i d e.0 ∷ ds.0, ds.1)) (ctors_each cs rs e.1))
      ∙ sym (bind_assoc (nest s r as_) (λ e. done (drafted s i d e.0, e.1)) (λ y. each (nest_draft s i) (drafts_of cs rs) y.1 >>= λ ys. done (y.0 ∷ ys.0, ys.1)))

-- what comes after auxiliary type i
abbrev pub more_by : ℕ → Setting → ℕ → Option BlockType → List Aux → Program (List BlockType × List Aux)
more_by n s i None as_ = done ([], as_)
more_by n s i (Some t) as_ = aux_types n s (suc i) as_ >>= λ ts. done (t ∷ ts.0, ts.1)

module _ (n : ℕ) (s : Setting) (i : ℕ) (as_ : List Aux) where
  next_is : (o : Option Aux) → next_aux (aux_types n s) s i as_ o ≡ (next_by s i as_ o >>= λ o. more_by n s i o.0 o.1)
  next_is None = refl
  next_is (Some a) =
      let all = each (nest_draft s i) (drafts_of a.own.ctors a.ctors) as_ in
      let last : List Ctor × List Aux → Program (List BlockType × List Aux) = λ cs. aux_types n s (suc i) cs.1 >>= λ ts. done (aux_type s i a cs.0 ∷ ts.0, ts.1) in
      ap (λ p. p >>= last) (ctors_each s i a.own.ctors a.ctors as_)
      ∙ sym (ap (λ p. p >>= λ o. more_by n s i o.0 o.1) (bind_assoc all (λ cs. done (outlined s i (outline_of a) cs.0, cs.1)) (λ t. done (Some t.0, t.1)))
      ∙ bind_assoc all (λ cs. done (Some (outlined s i (outline_of a) cs.0), cs.1)) (λ o. more_by n s i o.0 o.1))

  pub types_then : (w : Place) → finding w (aux_types (suc n) s i as_) ≡ then_found (next_nests w s i as_) (λ o. finding w (more_by n s i o.0 o.1))
  types_then w = ap (finding w) (next_is (aux_from as_ i)) ∙ bind_found w (nest_next s i as_) (λ o. more_by n s i o.0 o.1)

module _ (w : Place) (s : Setting) (total : ℕ) (start : List Aux) where
  -- all auxiliary types are, after these, those from number i on
  abbrev pub LeadsTypes : List BlockType → ℕ → ℕ → List Aux → Type 0
  LeadsTypes front m i as_ = finding w (aux_types total s 0 start) ≡ then_found (finding w (aux_types m s i as_)) (behind front)

  pub types_first : LeadsTypes [] total 0 start
  types_first = sym (behind_none (finding w (aux_types total s 0 start)))

  module _ (front : List BlockType) (m i : ℕ) (as_ : List Aux) (so_far : LeadsTypes front m i as_) where
    pub types_used : m ≡ 0 → finding w (aux_types total s 0 start) ≡ refused NestedForm
    types_used none = so_far ∙ ap (λ m. then_found (finding w (aux_types m s i as_)) (behind front)) none

    module _ (k : ℕ) (one : m ≡ suc k) where
      one_is : finding w (aux_types total s 0 start) ≡ then_found (then_found (next_nests w s i as_) (λ o. finding w (more_by k s i o.0 o.1))) (behind front)
      one_is = so_far ∙ ap (λ m. then_found (finding w (aux_types m s i as_)) (behind front)) one ∙ ap (λ x. then_found x (behind front)) (types_then k s i as_ w)

      pub types_next : (j : ℕ) → j ≡ suc i → (t : BlockType) (bs : List Aux) (pushed : List BlockType) → pushed ≡ front ++ t ∷ [] → next_nests w s i as_ ≡ found (Some t, bs) → LeadsTypes pushed k j bs
      types_next j is t bs pushed push made =
          one_is
          ∙ ap (λ x. then_found (then_found x (λ o. finding w (more_by k s i o.0 o.1))) (behind front)) made
          ∙ ap (λ x. then_found x (behind front)) (bind_found w (aux_types k s (suc i) bs) (λ ts. done (t ∷ ts.0, ts.1)))
          ∙ behind_one (finding w (aux_types k s (suc i) bs)) front pushed t push
          ∙ ap (λ n. then_found (finding w (aux_types k s n bs)) (behind pushed)) (sym is)

      pub types_end : (bs : List Aux) → next_nests w s i as_ ≡ found (None, bs) → finding w (aux_types total s 0 start) ≡ found (front, bs)
      types_end bs none =
          one_is
          ∙ ap (λ x. then_found (then_found x (λ o. finding w (more_by k s i o.0 o.1))) (behind front)) none
          ∙ ap (λ x. found (x, bs)) (append-nil front)

      pub types_stop : (stop : Stop) → FindsNothing (next_nests w s i as_) stop → FindsNothing (finding w (aux_types total s 0 start)) stop
      types_stop (No r) h = one_is ∙ ap (λ x. then_found (then_found x (λ o. finding w (more_by k s i o.0 o.1))) (behind front)) h
      types_stop Spent h = absurd h
      types_stop NoMemory h = tt

-- a constructor, by what is found of its type
module _ (w : Place) (s : Setting) (i : ℕ) (d : PlainDraft) (as_ : List Aux) where
  draft_then : draft_nests w s i d as_ ≡ then_found (nests w s d.type as_) (λ e. found (drafted s i d e.0, e.1))
  draft_then = bind_found w (nest s d.type as_) (λ e. done (drafted s i d e.0, e.1))

  pub draft_found : (e : Tree × List Aux) → nests w s d.type as_ ≡ found e → draft_nests w s i d as_ ≡ found (drafted s i d e.0, e.1)
  draft_found e h = draft_then ∙ ap (λ f. then_found f (λ e. found (drafted s i d e.0, e.1))) h

  pub draft_stops : (stop : Stop) → FindsNothing (nests w s d.type as_) stop → FindsNothing (draft_nests w s i d as_) stop
  draft_stops (No r) h = draft_then ∙ ap (λ f. then_found f (λ e. found (drafted s i d e.0, e.1))) h
  draft_stops Spent h = absurd h
  draft_stops NoMemory h = tt

-- a type, by what is found of its constructors
module _ (w : Place) (s : Setting) (i : ℕ) (o : PlainOutline) (as_ : List Aux) where
  outline_then : outline_nests w s i o as_ ≡ then_found (drafts_nest w s i o.ctors as_) (λ cs. found (outlined s i o cs.0, cs.1))
  outline_then = bind_found w (each (nest_draft s i) o.ctors as_) (λ cs. done (outlined s i o cs.0, cs.1))

  pub outline_found : (cs : List Ctor × List Aux) → drafts_nest w s i o.ctors as_ ≡ found cs → outline_nests w s i o as_ ≡ found (outlined s i o cs.0, cs.1)
  outline_found cs h = outline_then ∙ ap (λ f. then_found f (λ cs. found (outlined s i o cs.0, cs.1))) h

  pub outline_stops : (stop : Stop) → FindsNothing (drafts_nest w s i o.ctors as_) stop → FindsNothing (outline_nests w s i o as_) stop
  outline_stops (No r) h = outline_then ∙ ap (λ f. then_found f (λ cs. found (outlined s i o cs.0, cs.1))) h
  outline_stops Spent h = absurd h
  outline_stops NoMemory h = tt

-- the type of a number, by what is found of its outline
module _ (w : Place) (s : Setting) (i : ℕ) (as_ : List Aux) where
  module _ (a : Aux) (h : aux_from as_ i ≡ Some a) where
    next_then : next_nests w s i as_ ≡ then_found (outline_nests w s i (outline_of a) as_) (λ t. found (Some t.0, t.1))
    next_then = ap (λ o. finding w (next_by s i as_ o)) h ∙ bind_found w (nest_outline s i (outline_of a) as_) (λ t. done (Some t.0, t.1))

    pub next_found : (t : BlockType × List Aux) → outline_nests w s i (outline_of a) as_ ≡ found t → next_nests w s i as_ ≡ found (Some t.0, t.1)
    next_found t made = next_then ∙ ap (λ f. then_found f (λ t. found (Some t.0, t.1))) made

    pub next_stops : (stop : Stop) → FindsNothing (outline_nests w s i (outline_of a) as_) stop → FindsNothing (next_nests w s i as_) stop
    next_stops (No r) made = next_then ∙ ap (λ f. then_found f (λ t. found (Some t.0, t.1))) made
    next_stops Spent made = absurd made
    next_stops NoMemory made = tt
