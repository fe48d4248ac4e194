-- One argument after another, while the store grows.
use Rattle.std.proofs.Common.{ℕ, ◌≡◌, ◌<◌, ◌≤◌, ◌+◌, List, [], ◌∷◌, ◌++◌, length, map, refl, subst, sym, ap, ◌∙◌, arith}
use Rattle.std.specs.Prelude.{All}
use Rattle.std.proofs.lemmas.List.Elements.{All-head, All-tail}
use Rattle.std.proofs.lemmas.List.{append-nil}
use Rattle.lk_tree.specs.Tree.{Tree, pi, app}
use Rattle.lk_tree.specs.Bind.{opened}
use Rattle.lk_tree.specs.Spine.{apply, head, args}
use Rattle.lk_tree.proofs.Within.{apply_head_args}
use Rattle.lk_written.specs.Line.{app_rule}
use Rattle.lk_trace.specs.declared.rules.TypingRule.TheVariants.{Apply}
use Rattle.lk_tree.specs.WellFormed.{IsWellFormed, AllWellFormed}
use Rattle.lk_tree.proofs.Spines.{well_formed_of_apply}
use Rattle.lk_rulebook.specs.Place.{Place}
use Rattle.lk_rulebook.specs.WellStated.{WellStated}
use Rattle.lk_rulebook.specs.Claims.{types, reduces, equals}
use Rattle.lk_questions.specs.Query.{infer, whnf, same}
use Rattle.lk_store.specs.Contents.{Contents, tree_at, Extends, IsTree}
use Rattle.lk_store.proofs.Extending.{Extends-trans}
use Rattle.lk_ask.specs.declared.query.Query.TheVariants as query
use Rattle.lk_premises.specs.declared.claims.Relation.TheVariants.{Typing}
use Rattle.lk_spine.specs.Reading.{AreTrees}
use Rattle.lk_step.specs.Rows.{no_claim, IsAnswered}
use Rattle.lk_step.specs.Typing.{ArgumentPremises, no_argument}
use Rattle.lk_step.specs.Runs.{Runs}
use Rattle.lk_step.specs.Shaped.{IsShapedAnswer}
use Rattle.lk_step.specs.Told.{IsAnsweredWithin, IsType}
use Rattle.lk_step.proofs.Shapes.{shaped_answer}
use Rattle.lk_derive_types.specs.declared.asked.Asked.{Asked}
use Rattle.lk_derive_types.specs.declared.parts.Function.{Function}
use Rattle.lk_derive_types.specs.Asked.{IsNothingAsked, Notes, AreAsked}
use Rattle.lk_derive_types.specs.Parts.{IsPiRead}
use Rattle.lk_derive_types.specs.TypeRows.{IsTypedRow, IsTypedBy}
use Rattle.lk_derive_types.specs.Spines.{IsApplied, applied, IsArgumentWithin, NotesArgument, IsSpineAt}
use Rattle.lk_derive_types.proofs.AskedSoFar.{there, asked_later, nothing_asked, type_asked, form_asked, same_asked}
use Rattle.lk_derive_types.proofs.BinderSteps.{type_at}
use Rattle.lk_derive_types.proofs.SpineRuns.{argument_within, SpineRun, spine_run, Finishes, SpineNext, spine_next, spine_start}

pub numbers_known : (c d : Contents) (es : List ℕ) → Extends c d → All (λ e. e < length c.trees) es → All (λ e. e < length d.trees) es
numbers_known c d es x h = λ i e l. let a = x.trees.longer in let b = h i e l in omega arith

pub numbers_same : (c d : Contents) (es : List ℕ) → Extends c d → All (λ e. e < length c.trees) es → map (tree_at d) es ≡ map (tree_at c) es
numbers_same c d [] x h = refl
numbers_same c d (e ∷ es) x h =
    ap (λ z. z ∷ map (tree_at d) es) (x.trees.same e (All-head (λ e. e < length c.trees) e es h)) ∙ ap (λ zs. tree_at c e ∷ zs) (numbers_same c d es x (All-tail (λ e. e < length c.trees) e es h))

-- the next argument may be asked of
pub next_within : (w : Place) (c : Contents) (e most at x : ℕ) (rest : List ℕ) (a : Asked) → IsSpineAt w c e most at (x ∷ rest) a → IsArgumentWithin w (tree_at c at) (tree_at c x) most
next_within w c e most at x rest a h =
    let runs : Runs w (applied h.function (tree_at c x ∷ map (tree_at c) rest)) h.type h.left = subst (λ ys. Runs w (applied h.function ys) h.type h.left) (sym h.rest_are.are) h.runs in
    subst (λ z. IsArgumentWithin w z (tree_at c x) most) (sym h.at_is.is) (argument_within w h.function (tree_at c x) (map (tree_at c) rest) h.type h.left most runs h.within)

pub next_known : (w : Place) (c : Contents) (e most at x : ℕ) (rest : List ℕ) (a : Asked) → IsSpineAt w c e most at (x ∷ rest) a → x < length c.trees
next_known w c e most at x rest a h = All-head (λ e. e < length c.trees) x rest h.rest_are.known

pub spine_more : (w u : Place) → WellStated w → (c₀ c₁ c₂ c₃ : Contents) (e most at x : ℕ) (rest : List ℕ) (a b : Asked) (f : Function) (own next : ℕ) → Extends c₀ c₁ → Extends c₁ c₂ → Extends c₂ c₃ → u ≡ w →
    IsPiRead w c₁ (tree_at c₀ at) f → IsType u (tree_at c₁ x) (tree_at c₂ own) → own < length c₂.trees → IsTree c₃ next (opened (tree_at c₂ f.body) (tree_at c₂ x)) → NotesArgument a b at f x own →
    IsSpineAt w c₀ e most at (x ∷ rest) a → IsSpineAt w c₃ e most next rest b
spine_more w u ok c₀ c₁ c₂ c₃ e most at x rest a b f own next x₁ x₂ x₃ place r t ho hn n h =
    let F : Tree = h.function in
    let y : Tree = tree_at c₀ x in
    let ys : List Tree = map (tree_at c₀) rest in
    let X : Tree = tree_at c₂ own in
    let hx : x < length c₀.trees = next_known w c₀ e most at x rest a h in
    let more : All (λ e. e < length c₀.trees) rest = All-tail (λ e. e < length c₀.trees) x rest h.rest_are.known in
    let x₀₂ : Extends c₀ c₂ = Extends-trans c₀ c₁ c₂ x₁ x₂ in
    let x₀₃ : Extends c₀ c₃ = Extends-trans c₀ c₂ c₃ x₀₂ x₃ in
    let x₁₃ : Extends c₁ c₃ = Extends-trans c₁ c₂ c₃ x₂ x₃ in
    let list : y ∷ ys ≡ h.arguments = h.rest_are.are in
    let runs : Runs w (applied F (y ∷ ys)) h.type h.left = subst (λ zs. Runs w (applied F zs) h.type h.left) (sym list) h.runs in
    let fine : AllWellFormed (y ∷ ys) = subst AllWellFormed (sym list) h.arguments_fine in
    let finish : Finishes w h.tree F (y ∷ ys) h.type h.left h.queries h.claims = subst (λ zs. Finishes w h.tree F zs h.type h.left h.queries h.claims) (sym list) h.finish in
    let p : IsPiRead w c₁ F f = subst (λ z. IsPiRead w c₁ z f) h.at_is.is r in
    let own_is : IsType w y X = type_at w u (tree_at c₁ x) y X place (x₁.trees.same x hx) t in
    let s : SpineNext w h.tree ys h.type h.left F y p.domain p.body X h.queries h.claims = spine_next w ok h.tree F y ys h.type p.domain p.body X h.left h.queries h.claims h.fine fine.0 runs p.reduced own_is finish in
    let P : Tree = pi p.domain p.body in
    let at_there : IsTree c₃ at F = there c₀ c₃ at F x₀₃ h.at_is in
    let x_there : IsTree c₃ x y = there c₀ c₃ x y x₀₃ (record { known = hx; is = refl }) in
    let own_there : IsTree c₃ own X = there c₂ c₃ own X x₃ (record { known = ho; is = refl }) in
    let q₀ : AreAsked c₃ a h.queries h.claims = asked_later c₀ c₃ a h.queries h.claims x₀₃ h.asked_are in
    let q₁ : AreAsked c₃ n.first (h.queries ++ (whnf F ∷ [])) (h.claims ++ (reduces F P ∷ [])) = form_asked c₃ a n.first h.queries h.claims at f.pi F P n.form at_there (there c₁ c₃ f.pi P x₁₃ p.pi_is) q₀ in
    let q₂ : AreAsked c₃ n.second ((h.queries ++ (whnf F ∷ [])) ++ (infer y ∷ [])) ((h.claims ++ (reduces F P ∷ [])) ++ (types y X ∷ [])) =
    type_asked c₃ n.first n.second (h.queries ++ (whnf F ∷ [])) (h.claims ++ (reduces F P ∷ [])) x own y X n.typed x_there own_there q₁ in
    record {
      tree = h.tree;
      type = h.type;
      function = opened p.body y;
      arguments = ys;
      queries = ((h.queries ++ (whnf F ∷ [])) ++ (infer y ∷ [])) ++ (same X p.domain ∷ []);
      claims = ((h.claims ++ (reduces F P ∷ [])) ++ (types y X ∷ [])) ++ (equals X p.domain ∷ []);
      left = s.left;
      e_is = there c₀ c₃ e h.tree x₀₃ h.e_is;
      at_is = record { known = hn.known; is = hn.is ∙ (ap (λ z. opened z (tree_at c₂ x)) (x₂.trees.same f.body p.body_is.known ∙ p.body_is.is) ∙ ap (opened p.body) (x₀₂.trees.same x hx)) };
      rest_are = record { known = numbers_known c₀ c₃ rest x₀₃ more; are = numbers_same c₀ c₃ rest x₀₃ more };
      asked_are = same_asked c₃ n.second b ((h.queries ++ (whnf F ∷ [])) ++ (infer y ∷ [])) ((h.claims ++ (reduces F P ∷ [])) ++ (types y X ∷ [])) own f.domain X p.domain n.equal own_there (there c₁ c₃ f.domain p.domain x₁₃ p.domain_is) q₂;
      fine = s.fine;
      arguments_fine = fine.1;
      runs = s.runs;
      within = let l = s.less in let m = h.within in omega arith;
      finish = s.finish;
    }

unapplied : (ys : List Tree) (y : Tree) → (x : Tree) × (xs : List Tree) × (ys ++ (y ∷ []) ≡ x ∷ xs)
unapplied [] y = (y, [], refl)
unapplied (z ∷ zs) y = (z, zs ++ (y ∷ []), refl)

-- an application has an argument
some_argument : (e : Tree) → IsApplied e → (x : Tree) × (xs : List Tree) × (args e ≡ x ∷ xs)
unfolding args
some_argument (app f a) h = unapplied (args f) a
some_argument _ h = absurd h

-- the type of the head is asked for
pub head_within : (w : Place) (e : Tree) (most : ℕ) → IsApplied e → IsAnsweredWithin w (infer e) most → IsAnsweredWithin w (infer (head e)) most
head_within w e most i h =
    let s : (x : Tree) × (xs : List Tree) × (args e ≡ x ∷ xs) = some_argument e i in
    let is : e ≡ apply (head e) (s.0 ∷ s.1) = sym (apply_head_args e) ∙ ap (apply (head e)) s.2 in
    let r : SpineRun w (head e) (s.0 ∷ s.1) h.0 h.1 = spine_run w (head e) s.0 s.1 h.0 h.1 (subst (λ z. IsAnswered w (infer z) h.0 h.1) is h.2) in
    let p : r.first + r.more < h.1 = r.paid in
    (r.type, r.first, r.typed, omega (arith, p, h.3))

-- with the type of the head all arguments are ahead
pub spine_begin : (w : Place) → WellStated w → (c₀ c₁ : Contents) (e function at most : ℕ) (arguments : List ℕ) (a b : Asked) → Extends c₀ c₁ → e < length c₀.trees → IsWellFormed (tree_at c₀ e) → IsAnsweredWithin w (infer (tree_at c₀ e)) most → IsApplied (tree_at c₀ e) →
    IsTree c₀ function (head (tree_at c₀ e)) → AreTrees c₀ arguments (args (tree_at c₀ e)) → IsType w (tree_at c₀ function) (tree_at c₁ at) → at < length c₁.trees → IsNothingAsked a →
    Notes a b (query.Infer function) (record { relation = Typing; left = function; right = at }) → IsSpineAt w c₁ e most at arguments b
spine_begin w ok c₀ c₁ e function at most arguments a b x he f h i hf ha t hat n m =
    let E : Tree = tree_at c₀ e in
    let s : (x : Tree) × (xs : List Tree) × (args E ≡ x ∷ xs) = some_argument E i in
    let g : Tree = head E in
    let F : Tree = tree_at c₁ at in
    let is : E ≡ apply g (s.0 ∷ s.1) = sym (apply_head_args E) ∙ ap (apply g) s.2 in
    let fine : IsWellFormed (apply g (s.0 ∷ s.1)) = subst IsWellFormed is f in
    let both : IsWellFormed g × AllWellFormed (s.0 ∷ s.1) = well_formed_of_apply g (s.0 ∷ s.1) fine in
    let u : IsType w g F = subst (λ z. IsType w z F) hf.is t in
    let r : (n : ℕ) × (n ≤ h.1) × Runs w (applied F (s.0 ∷ s.1)) h.0 n × Finishes w (apply g (s.0 ∷ s.1)) F (s.0 ∷ s.1) h.0 n (infer g ∷ []) (types g F ∷ []) =
    spine_start w ok g s.0 s.1 F h.0 h.1 fine (subst (λ z. IsAnswered w (infer z) h.0 h.1) is h.2) u in
    let sF : IsShapedAnswer (infer g) F = shaped_answer w ok (infer g) F u.cost both.0 u.answered in
    let at_there : IsTree c₁ at F = record { known = hat; is = refl } in
    record {
      tree = E;
      type = h.0;
      function = F;
      arguments = s.0 ∷ s.1;
      queries = infer g ∷ [];
      claims = types g F ∷ [];
      left = r.0;
      e_is = there c₀ c₁ e E x (record { known = he; is = refl });
      at_is = at_there;
      rest_are = record { known = numbers_known c₀ c₁ arguments x ha.known; are = numbers_same c₀ c₁ arguments x ha.known ∙ (ha.are ∙ s.2) };
      asked_are = type_asked c₁ a b [] [] function at g F m (there c₀ c₁ function g x hf) at_there (nothing_asked c₁ a n);
      fine = sF.0.1;
      arguments_fine = both.1;
      runs = r.2;
      within = omega (arith, r.1, h.3);
      finish = subst (λ z. Finishes w z F (s.0 ∷ s.1) h.0 r.0 (infer g ∷ []) (types g F ∷ [])) (sym is) r.3;
    }

-- with no argument ahead it is a row
pub spine_end : (w : Place) (c₀ c : Contents) (e most at : ℕ) (a : Asked) → Extends c₀ c → e < length c₀.trees → IsSpineAt w c e most at [] a → IsTypedBy w c Apply e at a (tree_at c₀ e)
spine_end w c₀ c e most at a x he h =
    let none : [] ≡ h.arguments = h.rest_are.are in
    let runs : Runs w (applied h.function []) h.type h.left = subst (λ ys. Runs w (applied h.function ys) h.type h.left) (sym none) h.runs in
    let is : h.function ≡ h.type = runs.0 in
    let finish : Finishes w h.tree h.function [] h.type h.left h.queries h.claims = subst (λ ys. Finishes w h.tree h.function ys h.type h.left h.queries h.claims) (sym none) h.finish in
    let row : IsTypedRow w app_rule h.tree h.type (h.queries ++ []) (h.claims ++ []) = finish [] [] 0 (subst (λ z. ArgumentPremises h.function [] [] z) is no_argument) no_claim (omega arith) in
    let tree_is : h.tree ≡ tree_at c₀ e = sym h.e_is.is ∙ x.trees.same e he in
    record {
      type = h.type;
      plain_rule = app_rule;
      queries = h.queries;
      claims = h.claims;
      rule_in = tt;
      rule_is = refl;
      left_is = record { known = h.e_is.known; is = h.e_is.is ∙ tree_is };
      right_is = record { known = h.at_is.known; is = h.at_is.is ∙ is };
      asked_are = h.asked_are;
      row = subst (λ z. IsTypedRow w app_rule z h.type h.queries h.claims) tree_is
          (subst (λ z. IsTypedRow w app_rule h.tree h.type z h.claims) (append-nil h.queries) (subst (λ z. IsTypedRow w app_rule h.tree h.type (h.queries ++ []) z) (append-nil h.claims) row));
    }
