-- The first field is behind: what is left of a run of a projection, and what its row then wants.
use Rattle.std.proofs.Common.{ℕ, suc, ◌≡◌, ◌≤◌, ◌+◌, Bool, ◌&&◌, List, [], ◌∷◌, ◌++◌, refl, subst, ap, arith}
use Rattle.lk_tree.specs.Tree.{Name, Tree, pi, proj}
use Rattle.lk_tree.specs.Bind.{opened, has_var}
use Rattle.lk_tree.specs.WellFormed.{IsWellFormed}
use Rattle.lk_tree.proofs.Binding.{open_fine}
use Rattle.lk_rulebook.specs.Place.{Place}
use Rattle.lk_rulebook.specs.Claims.{Claim, reduces}
use Rattle.lk_questions.specs.Query.{Query, whnf}
use Rattle.lk_questions.specs.Program.{Program}
use Rattle.lk_questions.specs.Projections.{field_type}
use Rattle.lk_written.specs.Line.{proj_rule}
use Rattle.lk_store.specs.Contents.{Contents}
use Rattle.lk_step.specs.Rows.{AreClaims, a_claim}
use Rattle.lk_step.specs.Runs.{Runs}
use Rattle.lk_step.specs.Typing.{field_before}
use Rattle.lk_derive_types.specs.declared.asked.Asked.{Asked}
use Rattle.lk_derive_types.specs.Asked.{AreAsked}
use Rattle.lk_derive_types.specs.Projections.{FieldsFinish}
use Rattle.lk_derive_types.specs.TypeRows.{IsTypedRow}
use Rattle.lk_derive_types.proofs.FieldRuns.{prop_then, PropNoted}
use Rattle.lk_derive_types.proofs.FieldSteps.{PiTold}

-- what is left of the type behind the first of the fields
abbrev pub past_first : Name → Tree → ℕ → Tree → Tree
past_first S s j B = opened B (proj S j s)

-- what a run does behind the Pi of the first field
abbrev pub behind_first : Name → Tree → Bool → ℕ → ℕ → Tree × Tree → Program Tree
behind_first S s q j n u = prop_then (q && has_var 0 u.1) u.0 (field_type S s q (suc j) n (past_first S s j u.1))

-- the first of the fields is behind
pub record FieldNext (w : Place) (c : Contents) (S : Name) (i : ℕ) (s : Tree) (q : Bool) (j n : ℕ) (B T : Tree) (m : ℕ) (b : Asked) : Type 0 where
  pub queries : List Query
  pub claims : List Claim
  pub left : ℕ
  pub less : left ≤ m
  pub asked_are : AreAsked c b queries claims
  pub fine : IsWellFormed (past_first S s j B)
  pub runs : Runs w (field_type S s q (suc j) n (past_first S s j B)) T left
  pub finish : FieldsFinish w S i s q (suc j) n (past_first S s j B) T left queries claims

-- one more, some more, and the others
between_more : {Y : Type 0} (ys : List Y) (a : Y) (us zs : List Y) → ys ++ (a ∷ (us ++ zs)) ≡ ((ys ++ (a ∷ [])) ++ us) ++ zs
between_more [] a us zs = refl
between_more (y ∷ ys) a us zs = ap (λ l. y ∷ l) (between_more ys a us zs)

pub field_next : (w : Place) (c : Contents) (S : Name) (i : ℕ) (s : Tree) (q : Bool) (j n : ℕ) (F A B T : Tree) (m : ℕ) (b : Asked) (qs : List Query) (ks : List Claim) → IsWellFormed F → IsWellFormed s →
    (r : PiTold w F A B (behind_first S s q j n) T m) →
    PropNoted w c (q && has_var 0 B) A (field_type S s q (suc j) n (past_first S s j B)) T r.left b (qs ++ (whnf F ∷ [])) (ks ++ (reduces F (pi A B) ∷ [])) →
    FieldsFinish w S i s q j (suc n) F T m qs ks → FieldNext w c S i s q j n B T m b
field_next w c S i s q j n F A B T m b qs ks fF fs r p f =
    let e : m ≡ r.first + r.left = r.paid in
    let l : p.next.left ≤ r.left = p.next.less in
    let P : Tree = pi A B in
    record {
      queries = (qs ++ (whnf F ∷ [])) ++ p.queries;
      claims = (ks ++ (reduces F P ∷ [])) ++ p.claims;
      left = p.next.left;
      less = omega (arith, e, l);
      asked_are = p.asked_are;
      fine = open_fine 0 (proj S j s) B r.shaped.1.1 fs;
      runs = p.next.runs;
      finish = λ us js k a shaped g le.
          let x : (o : ℕ) × AreClaims w (p.queries ++ us) (p.claims ++ js) o × (o ≤ r.left) = p.next.claims us js k g le in
          let y : x.0 ≤ r.left = x.2 in
          subst (λ z. IsTypedRow w proj_rule (proj S i s) T z (((ks ++ (reduces F P ∷ [])) ++ p.claims) ++ js)) (between_more qs (whnf F) p.queries us)
          (subst (λ z. IsTypedRow w proj_rule (proj S i s) T (qs ++ (whnf F ∷ (p.queries ++ us))) z) (between_more ks (reduces F P) p.claims js)
          (f (whnf F ∷ (p.queries ++ us)) (reduces F P ∷ (p.claims ++ js)) (r.first + x.0) (field_before (p.next.premises js) a) (r.shaped, p.next.shaped js shaped)
          (a_claim {n = x.0} (whnf F) P r.first fF r.answered tt x.1) (omega (arith, e, y))));
    }
