-- From one field to the next, while the store grows.
use Rattle.std.proofs.Common.{ℕ, zero, suc, ◌≡◌, ◌<◌, ◌≤◌, ◌+◌, Bool, true, ◌&&◌, List, [], ◌∷◌, ◌++◌, refl, subst, sym, ap, ◌∙◌, arith}
use Rattle.lk_tree.specs.Tree.{Name, Tree, pi, proj}
use Rattle.lk_tree.specs.Bind.{opened, has_var}
use Rattle.lk_tree.specs.declared.rule.Rule.TheVariants.{BadProjection}
use Rattle.lk_rulebook.specs.Place.{Place}
use Rattle.lk_rulebook.specs.WellStated.{WellStated}
use Rattle.lk_rulebook.specs.Claims.{Claim, reduces}
use Rattle.lk_questions.specs.Query.{Query, whnf}
use Rattle.lk_questions.specs.Program.{Program}
use Rattle.lk_questions.specs.Projections.{field_type}
use Rattle.lk_store.specs.Contents.{Contents, name_at, tree_at, Extends, IsName, IsTree}
use Rattle.lk_store.proofs.Extending.{Extends-trans}
use Rattle.lk_step.specs.Runs.{Runs}
use Rattle.lk_derive_types.specs.declared.asked.Asked.{Asked}
use Rattle.lk_derive_types.specs.declared.parts.Function.{Function}
use Rattle.lk_derive_types.specs.declared.fields.Projected.{Projected}
use Rattle.lk_derive_types.specs.Asked.{NotesForm, AreAsked}
use Rattle.lk_derive_types.specs.Parts.{IsSortedWithin, IsPiWithin, IsPiRead}
use Rattle.lk_derive_types.specs.Projections.{NotesProp, FieldsFinish, IsFieldAt}
use Rattle.lk_derive_types.proofs.RunParts.{PiRun, pi_run}
use Rattle.lk_derive_types.proofs.AskedSoFar.{there, asked_later, form_asked}
use Rattle.lk_derive_types.proofs.FieldRuns.{prop_within, PropNoted, prop_noted}
use Rattle.lk_derive_types.proofs.FieldSteps.{PiTold, pi_told}
use Rattle.lk_derive_types.proofs.FieldNext.{past_first, behind_first, FieldNext, field_next}

named_there : (c d : Contents) (n : ℕ) (x : Name) → Extends c d → IsName c n x → IsName d n x
named_there c d n x e h = let l = e.names.longer in let k = h.known in record { known = omega arith; is = e.names.same n h.known ∙ h.is }

-- as a field is asked for that is further on, there is one more ahead
one_ahead : (p n a : ℕ) → p ≡ n + a → n < p → (b : ℕ) × (a ≡ suc b)
one_ahead p n zero e l = absurd (omega (arith, e, l))
one_ahead p n (suc b) e l = (b, refl)

-- behind all fields before the one that is asked for, it is this one
pub last_one : (w : Place) (c : Contents) (p : Projected) (most number at : ℕ) (a : Asked) → p.field ≤ number → IsFieldAt w c p most number at a → IsFieldAt w c p most p.field at a
last_one w c p most number at a l h =
    let e : p.field ≡ number + h.ahead = h.count in
    let same : number ≡ p.field = omega (arith, e, l) in
    subst (λ n. IsFieldAt w c p most n at a) same h

module _ (w : Place) (ok : WellStated w) (c : Contents) (p : Projected) (most number at : ℕ) (a : Asked) (h : IsFieldAt w c p most number at a) (below : number < p.field) where
  abbrev ahead : (b : ℕ) × (h.ahead ≡ suc b)
  ahead = one_ahead p.field number h.ahead h.count below

  abbrev behind : Tree × Tree → Program Tree
  behind = behind_first h.name h.subject p.prop number ahead.0

  next_runs : Runs w (field_type h.name h.subject p.prop number (suc ahead.0) h.function) h.type h.left
  next_runs = subst (λ z. Runs w (field_type h.name h.subject p.prop number z h.function) h.type h.left) ahead.1 h.runs

  next_finish : FieldsFinish w h.name p.field h.subject p.prop number (suc ahead.0) h.function h.type h.left h.queries h.claims
  next_finish = subst (λ z. FieldsFinish w h.name p.field h.subject p.prop number z h.function h.type h.left h.queries h.claims) ahead.1 h.finish

  -- its Pi may be asked for
  pub next_function : IsPiWithin w (tree_at c at) most
  next_function =
      let r : PiRun w h.function behind h.type h.left = pi_run w BadProjection h.function behind h.type h.left next_runs in
      let q : h.left ≡ r.first + r.more = r.paid in
      let l : h.left ≤ most = h.within in
      subst (λ z. IsPiWithin w z most) (sym h.at_is.is) (record { domain = r.domain; body = r.body; cost = r.first; reduced = r.reduced; within = omega (arith, q, l) })

  pi_read : (d : Contents) (f : Function) → IsPiRead w d (tree_at c at) f → IsPiRead w d h.function f
  pi_read d f i = subst (λ z. IsPiRead w d z f) h.at_is.is i

  told : (d : Contents) (f : Function) (i : IsPiRead w d h.function f) → PiTold w h.function i.domain i.body behind h.type h.left
  told d f i = pi_told w ok d BadProjection h.function behind h.type h.left f h.fine next_runs i

  -- the sort of its domain may be asked for, where that is due
  pub next_sorted : (d g : Contents) (u : Place) (f : Function) (due : Bool) → Extends d g → u ≡ w → IsPiRead w d (tree_at c at) f → due ≡ (p.prop && has_var 0 (tree_at d f.body)) → due ≡ true → IsSortedWithin u (tree_at g f.domain) most
  next_sorted d g u f due x place i is e =
      let j : IsPiRead w d h.function f = pi_read d f i in
      let r : PiTold w h.function j.domain j.body behind h.type h.left = told d f j in
      let q : h.left ≡ r.first + r.left = r.paid in
      let l : h.left ≤ most = h.within in
      let yes : (p.prop && has_var 0 j.body) ≡ true = ap (λ t. p.prop && has_var 0 t) (sym j.body_is.is) ∙ (sym is ∙ e) in
      let same : tree_at g f.domain ≡ j.domain = x.trees.same f.domain j.domain_is.known ∙ j.domain_is.is in
      subst (λ v. IsSortedWithin v (tree_at g f.domain) most) (sym place) (subst (λ z. IsSortedWithin w z most) (sym same)
      (prop_within w (p.prop && has_var 0 j.body) j.domain (field_type h.name h.subject p.prop (suc number) ahead.0 (past_first h.name h.subject number j.body)) h.type r.left most r.runs (omega (arith, q, l)) yes))

  -- it is behind
  pub next_field : (d g k m : Contents) (u : Place) (b b₁ : Asked) (f : Function) (due : Bool) (next : ℕ) → Extends c d → Extends d g → Extends g k → Extends k m → u ≡ w → IsPiRead w d (tree_at c at) f → NotesForm a b at f.pi →
      due ≡ (p.prop && has_var 0 (tree_at d f.body)) → NotesProp u k due (tree_at g f.domain) b b₁ f.domain → IsTree m next (opened (tree_at k f.body) (proj (name_at k p.structure) number (tree_at k p.subject))) →
      IsFieldAt w m p most (suc number) next b₁
  next_field d g k m u b b₁ f due next x₁ x₂ x₃ x₄ place i n is e t =
      let j : IsPiRead w d h.function f = pi_read d f i in
      let F : Tree = h.function in
      let A : Tree = j.domain in
      let B : Tree = j.body in
      let P : Tree = pi A B in
      let r : PiTold w F A B behind h.type h.left = told d f j in
      let x₀₃ : Extends c k = Extends-trans c g k (Extends-trans c d g x₁ x₂) x₃ in
      let x₁₃ : Extends d k = Extends-trans d g k x₂ x₃ in
      let x₀₄ : Extends c m = Extends-trans c k m x₀₃ x₄ in
      let qs : List Query = h.queries ++ (whnf F ∷ []) in
      let ks : List Claim = h.claims ++ (reduces F P ∷ []) in
      let asked : AreAsked k b qs ks = form_asked k a b h.queries h.claims at f.pi F P n (there c k at F x₀₃ h.at_is) (there d k f.pi P x₁₃ j.pi_is) (asked_later c k a h.queries h.claims x₀₃ h.asked_are) in
      let due_is : due ≡ (p.prop && has_var 0 B) = is ∙ ap (λ t. p.prop && has_var 0 t) j.body_is.is in
      let same : tree_at g f.domain ≡ A = x₂.trees.same f.domain j.domain_is.known ∙ j.domain_is.is in
      let e₁ : NotesProp w k due A b b₁ f.domain = subst (λ v. NotesProp v k due A b b₁ f.domain) place (subst (λ t. NotesProp u k due t b b₁ f.domain) same e) in
      let e₂ : NotesProp w k (p.prop && has_var 0 B) A b b₁ f.domain = subst (λ y. NotesProp w k y A b b₁ f.domain) due_is e₁ in
      let rest : Program Tree = field_type h.name h.subject p.prop (suc number) ahead.0 (past_first h.name h.subject number B) in
      let s : PropNoted w k (p.prop && has_var 0 B) A rest h.type r.left b₁ qs ks = prop_noted w ok k (p.prop && has_var 0 B) A rest h.type r.left b b₁ f.domain qs ks r.shaped.1.0 r.runs e₂ (there d k f.domain A x₁₃ j.domain_is) asked in
      let o : FieldNext w k h.name p.field h.subject p.prop number ahead.0 B h.type h.left b₁ = field_next w k h.name p.field h.subject p.prop number ahead.0 F A B h.type h.left b₁ h.queries h.claims h.fine h.subject_fine r s next_finish in
      let body_is : tree_at k f.body ≡ B = x₁₃.trees.same f.body j.body_is.known ∙ j.body_is.is in
      let name_is : name_at k p.structure ≡ h.name = (named_there c k p.structure h.name x₀₃ h.structure_is).is in
      let subject_is : tree_at k p.subject ≡ h.subject = (there c k p.subject h.subject x₀₃ h.subject_is).is in
      let value_is : proj (name_at k p.structure) number (tree_at k p.subject) ≡ proj h.name number h.subject = ap (λ z. proj z number (tree_at k p.subject)) name_is ∙ ap (proj h.name number) subject_is in
      record {
        name = h.name;
        subject = h.subject;
        type = h.type;
        function = past_first h.name h.subject number B;
        ahead = ahead.0;
        queries = o.queries;
        claims = o.claims;
        left = o.left;
        whole_is = there c m p.whole (proj h.name p.field h.subject) x₀₄ h.whole_is;
        structure_is = named_there c m p.structure h.name x₀₄ h.structure_is;
        subject_is = there c m p.subject h.subject x₀₄ h.subject_is;
        at_is = record { known = t.known; is = t.is ∙ (ap (λ z. opened z (proj (name_at k p.structure) number (tree_at k p.subject))) body_is ∙ ap (opened B) value_is) };
        asked_are = asked_later k m b₁ o.queries o.claims x₄ o.asked_are;
        fine = o.fine;
        subject_fine = h.subject_fine;
        count = let y : p.field ≡ number + h.ahead = h.count in let v : h.ahead ≡ suc ahead.0 = ahead.1 in omega (arith, y, v);
        runs = o.runs;
        within = let y = o.less in let v = h.within in omega arith;
        finish = o.finish;
      }
