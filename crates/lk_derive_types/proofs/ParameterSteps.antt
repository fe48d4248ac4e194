-- One parameter after another, while the store grows.
use Rattle.std.proofs.Common.{ℕ, ◌≡◌, ◌<◌, Bool, List, [], ◌∷◌, ◌++◌, length, map, subst, sym, ap, ◌∙◌, arith}
use Rattle.std.specs.Prelude.{All}
use Rattle.std.proofs.lemmas.List.Elements.{All-head, All-tail}
use Rattle.lk_tree.specs.Tree.{Tree, pi, proj}
use Rattle.lk_tree.specs.Bind.{opened}
use Rattle.lk_tree.specs.WellFormed.{AllWellFormed}
use Rattle.lk_rulebook.specs.Place.{Place}
use Rattle.lk_rulebook.specs.WellStated.{WellStated}
use Rattle.lk_rulebook.specs.Claims.{reduces}
use Rattle.lk_questions.specs.Query.{whnf}
use Rattle.lk_store.specs.Contents.{Contents, tree_at, Extends, IsTree}
use Rattle.lk_store.proofs.Extending.{Extends-trans}
use Rattle.lk_step.specs.Runs.{Runs}
use Rattle.lk_derive_types.specs.declared.asked.Asked.{Asked}
use Rattle.lk_derive_types.specs.declared.parts.Function.{Function}
use Rattle.lk_derive_types.specs.Asked.{NotesForm}
use Rattle.lk_derive_types.specs.Parts.{IsPiWithin, IsPiRead}
use Rattle.lk_derive_types.specs.Projections.{projected, ParametersFinish, IsParameterAt}
use Rattle.lk_derive_types.proofs.AskedSoFar.{there, asked_later, form_asked}
use Rattle.lk_derive_types.proofs.SpineSteps.{numbers_known, numbers_same}
use Rattle.lk_derive_types.proofs.ParameterRuns.{parameter_within, ParameterNext, parameter_next}

-- the next parameter may be asked of
pub next_parameter_within : (w : Place) (c : Contents) (e most : ℕ) (q : Bool) (at x : ℕ) (rest : List ℕ) (a : Asked) → IsParameterAt w c e most q at (x ∷ rest) a → IsPiWithin w (tree_at c at) most
next_parameter_within w c e most q at x rest a h =
    let y : Tree = tree_at c x in
    let ys : List Tree = map (tree_at c) rest in
    let runs : Runs w (projected h.name h.field h.subject q ((y ∷ ys) ++ h.others) (length (y ∷ ys)) h.function) h.type h.left =
    subst (λ zs. Runs w (projected h.name h.field h.subject q (zs ++ h.others) (length zs) h.function) h.type h.left) (sym h.ahead_are.are) h.runs in
    subst (λ z. IsPiWithin w z most) (sym h.at_is.is) (parameter_within w h.name h.field h.subject q (ys ++ h.others) (length ys) h.function y h.type h.left most runs h.within)

pub next_parameter_known : (w : Place) (c : Contents) (e most : ℕ) (q : Bool) (at x : ℕ) (rest : List ℕ) (a : Asked) → IsParameterAt w c e most q at (x ∷ rest) a → x < length c.trees
next_parameter_known w c e most q at x rest a h = All-head (λ e. e < length c.trees) x rest h.ahead_are.known

pub parameter_more : (w : Place) → WellStated w → (c₀ c₁ c₃ : Contents) (e most : ℕ) (q : Bool) (at x : ℕ) (rest : List ℕ) (a b : Asked) (f : Function) (next : ℕ) → Extends c₀ c₁ → Extends c₁ c₃ →
    IsPiRead w c₁ (tree_at c₀ at) f → IsTree c₃ next (opened (tree_at c₁ f.body) (tree_at c₁ x)) → NotesForm a b at f.pi →
    IsParameterAt w c₀ e most q at (x ∷ rest) a → IsParameterAt w c₃ e most q next rest b
parameter_more w ok c₀ c₁ c₃ e most q at x rest a b f next x₁ x₃ r hn n h =
    let F : Tree = h.function in
    let y : Tree = tree_at c₀ x in
    let ys : List Tree = map (tree_at c₀) rest in
    let hx : x < length c₀.trees = next_parameter_known w c₀ e most q at x rest a h in
    let more : All (λ e. e < length c₀.trees) rest = All-tail (λ e. e < length c₀.trees) x rest h.ahead_are.known in
    let x₀₃ : Extends c₀ c₃ = Extends-trans c₀ c₁ c₃ x₁ x₃ in
    let list : y ∷ ys ≡ h.arguments = h.ahead_are.are in
    let runs : Runs w (projected h.name h.field h.subject q ((y ∷ ys) ++ h.others) (length (y ∷ ys)) F) h.type h.left =
    subst (λ zs. Runs w (projected h.name h.field h.subject q (zs ++ h.others) (length zs) F) h.type h.left) (sym list) h.runs in
    let fine : AllWellFormed (y ∷ ys) = subst AllWellFormed (sym list) h.arguments_fine in
    let finish : ParametersFinish w h.name h.field h.subject q ((y ∷ ys) ++ h.others) (length (y ∷ ys)) F h.type h.left h.queries h.claims =
    subst (λ zs. ParametersFinish w h.name h.field h.subject q (zs ++ h.others) (length zs) F h.type h.left h.queries h.claims) (sym list) h.finish in
    let p : IsPiRead w c₁ F f = subst (λ z. IsPiRead w c₁ z f) h.at_is.is r in
    let s : ParameterNext w h.name h.field h.subject q (ys ++ h.others) (length ys) F y p.domain p.body h.type h.left h.queries h.claims =
    parameter_next w ok h.name h.field h.subject q (ys ++ h.others) (length ys) F y p.domain p.body h.type h.left h.queries h.claims h.fine fine.0 runs p.reduced finish in
    let P : Tree = pi p.domain p.body in
    record {
      name = h.name;
      field = h.field;
      subject = h.subject;
      type = h.type;
      function = opened p.body y;
      arguments = ys;
      others = h.others;
      queries = h.queries ++ (whnf F ∷ []);
      claims = h.claims ++ (reduces F P ∷ []);
      left = s.left;
      e_is = there c₀ c₃ e (proj h.name h.field h.subject) x₀₃ h.e_is;
      at_is = record { known = hn.known; is = hn.is ∙ (ap (λ z. opened z (tree_at c₁ x)) p.body_is.is ∙ ap (opened p.body) (x₁.trees.same x hx)) };
      ahead_are = record { known = numbers_known c₀ c₃ rest x₀₃ more; are = numbers_same c₀ c₃ rest x₀₃ more };
      asked_are = form_asked c₃ a b h.queries h.claims at f.pi F P n (there c₀ c₃ at F x₀₃ h.at_is) (there c₁ c₃ f.pi P x₃ p.pi_is) (asked_later c₀ c₃ a h.queries h.claims x₀₃ h.asked_are);
      fine = s.fine;
      arguments_fine = fine.1;
      runs = s.runs;
      within = let l = s.less in let m = h.within in omega arith;
      finish = s.finish;
    }
