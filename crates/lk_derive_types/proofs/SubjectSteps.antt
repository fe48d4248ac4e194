-- The beginning of a projection's row, while the store grows.
use Rattle.std.proofs.Common.{ℕ, ◌≡◌, ◌<◌, ◌≤◌, Bool, List, [], ◌∷◌, ◌++◌, length, map, take, drop, refl, subst, sym, ap, ◌∙◌, arith}
use Rattle.std.proofs.lemmas.List.{length-take-le, take-append-drop, take-map}
use Rattle.std.proofs.lemmas.List.Elements.{All-take}
use Rattle.lk_tree.specs.Tree.{Name, Level, Tree, sort, proj}
use Rattle.lk_tree.specs.Level.{is_zero_level}
use Rattle.lk_tree.specs.Spine.{args}
use Rattle.lk_tree.specs.WellFormed.{IsWellFormed, AllWellFormed}
use Rattle.lk_rulebook.specs.Place.{Place}
use Rattle.lk_rulebook.specs.WellStated.{WellStated}
use Rattle.lk_rulebook.specs.Claims.{types, reduces}
use Rattle.lk_questions.specs.Query.{infer, whnf}
use Rattle.lk_questions.specs.Projections.{field_type}
use Rattle.lk_store.specs.Contents.{Contents, name_at, tree_at, Extends, IsTree}
use Rattle.lk_store.proofs.Extending.{Extends-trans}
use Rattle.lk_spine.specs.Reading.{AreTrees}
use Rattle.lk_step.specs.Runs.{Runs, AreOne}
use Rattle.lk_step.specs.Shaped.{IsShapedAnswer}
use Rattle.lk_step.specs.Told.{IsAnsweredWithin, IsType, IsForm}
use Rattle.lk_step.specs.Typing.{no_parameter}
use Rattle.lk_step.proofs.Runs.{one_answer}
use Rattle.lk_step.proofs.Shapes.{shaped_answer}
use Rattle.lk_derive_types.specs.declared.asked.Asked.{Asked}
use Rattle.lk_derive_types.specs.declared.structures.Stated.{Stated}
use Rattle.lk_derive_types.specs.declared.subjects.Begun.{Begun}
use Rattle.lk_derive_types.specs.Asked.{IsNothingAsked, NotesType, NotesForm, AreAsked}
use Rattle.lk_derive_types.specs.Parts.{IsSortedWithin, IsSortRead}
use Rattle.lk_derive_types.specs.Projections.{projected, ParametersFinish, FieldsFinish, IsParameterAt, IsFieldAt}
use Rattle.lk_derive_types.specs.Subjects.{IsStructureType, constructor_type, IsConstructorAt, IsConstructorOf, IsFormedWithin, NotesFormed, NotesLevel, IsProjectionOf, IsBegun}
use Rattle.lk_derive_types.proofs.AskedSoFar.{there, nothing_asked, type_asked, form_asked}
use Rattle.lk_derive_types.proofs.SubjectRuns.{ProjectionRun, SomeRun, some_run, subject_told, sort_told, subject_formed, structure_sorted}
use Rattle.lk_derive_types.proofs.StructureTypes.{arguments_fine, constructor_fine, projection_finish}

-- the run whose first answers are these
record FormedRun (w : Place) (E : Tree) (S : Name) (s T₀ T : Tree) (most : ℕ) : Type 0 where
  field : ℕ
  is : E ≡ proj S field s
  sort_type : Tree
  level : Level
  type : Tree
  run : ProjectionRun w S field s T₀ T sort_type level type most

formed_run : (w : Place) (E : Tree) (S : Name) (s T₀ T : Tree) (most : ℕ) → IsProjectionOf E S s → IsAnsweredWithin w (infer E) most → IsType w s T₀ → IsForm w T₀ T → FormedRun w E S s T₀ T most
formed_run w E S s T₀ T most p h t f =
    let o : SomeRun w S p.field s most = some_run w S p.field s most (subst (λ z. IsAnsweredWithin w (infer z) most) p.is h) in
    record { field = p.field; is = p.is; sort_type = o.sort_type; level = o.level; type = o.type; run = subject_told w S p.field s o.between o.form o.sort_type T₀ T o.level o.type most o.run t f }

-- what may be asked for
pub subject_within : (w : Place) (E : Tree) (S : Name) (s : Tree) (most : ℕ) → IsProjectionOf E S s → IsAnsweredWithin w (infer E) most → IsFormedWithin w s most
subject_within w E S s most p h = subject_formed w S p.field s most (subst (λ z. IsAnsweredWithin w (infer z) most) p.is h)

pub sort_within : (w u : Place) (c : Contents) (E : Tree) (S : Name) (s : Tree) (most : ℕ) (a b : Asked) (number form : ℕ) → u ≡ w → IsProjectionOf E S s → IsAnsweredWithin w (infer E) most → NotesFormed w c s a b number form → IsSortedWithin u (tree_at c form) most
sort_within w u c E S s most a b number form place p h n =
    let r : FormedRun w E S s n.between n.reduct most = formed_run w E S s n.between n.reduct most p h n.typed n.reduced in
    subst (λ v. IsSortedWithin v (tree_at c form) most) (sym place) (subst (λ z. IsSortedWithin w z most) (sym n.form_is.is) (structure_sorted w S r.field s n.between n.reduct r.sort_type r.level r.type most r.run))

pub structure_here : (w u : Place) (c d : Contents) (E : Tree) (S R : Name) (s : Tree) (most : ℕ) (a b : Asked) (number form : ℕ) → u ≡ w → R ≡ S → Extends c d → IsProjectionOf E S s → IsAnsweredWithin w (infer E) most → NotesFormed w c s a b number form →
    IsStructureType u R (tree_at d form)
structure_here w u c d E S R s most a b number form place name x p h n =
    let r : FormedRun w E S s n.between n.reduct most = formed_run w E S s n.between n.reduct most p h n.typed n.reduced in
    let same : tree_at d form ≡ n.reduct = x.trees.same form n.form_is.known ∙ n.form_is.is in
    subst (λ v. IsStructureType v R (tree_at d form)) (sym place) (subst (λ z. IsStructureType w z (tree_at d form)) (sym name) (subst (λ z. IsStructureType w S z) (sym same) r.run.structure))

-- all that a row begins with is noted
pub begun_at : (w u v : Place) → WellStated w → (c₀ c₁ c₂ c₃ : Contents) (e structure subject most : ℕ) (a a₁ a₂ : Asked) (form : ℕ) (prop : Bool) (r : Stated) → Extends c₀ c₁ → Extends c₁ c₂ → Extends c₂ c₃ → u ≡ w → v ≡ w →
    e < length c₀.trees → structure < length c₀.names → subject < length c₀.trees → IsProjectionOf (tree_at c₀ e) (name_at c₀ structure) (tree_at c₀ subject) → IsWellFormed (tree_at c₀ e) → IsAnsweredWithin w (infer (tree_at c₀ e)) most → IsNothingAsked a →
    NotesFormed w c₁ (tree_at c₀ subject) a a₁ subject form → NotesLevel u c₂ (tree_at c₁ form) a₁ a₂ form prop → IsConstructorOf v c₃ (name_at c₂ structure) (tree_at c₂ form) r →
    IsBegun w c₃ e most (record { form = form; prop = prop; stated = r.ty; parameters = r.parameters }) a₂
begun_at w u v ok c₀ c₁ c₂ c₃ e structure subject most a a₁ a₂ form prop r x₁ x₂ x₃ p₁ p₂ he hS hs is f h none n m k =
    let E : Tree = tree_at c₀ e in
    let S : Name = name_at c₀ structure in
    let s : Tree = tree_at c₀ subject in
    let T₀ : Tree = n.between in
    let T : Tree = n.reduct in
    let x₀₂ : Extends c₀ c₂ = Extends-trans c₀ c₁ c₂ x₁ x₂ in
    let x₁₃ : Extends c₁ c₃ = Extends-trans c₁ c₂ c₃ x₂ x₃ in
    let x₀₃ : Extends c₀ c₃ = Extends-trans c₀ c₁ c₃ x₁ x₁₃ in
    let F : FormedRun w E S s T₀ T most = formed_run w E S s T₀ T most is h n.typed n.reduced in
    let m₁ : NotesLevel w c₂ T a₁ a₂ form prop = subst (λ z. NotesLevel w c₂ z a₁ a₂ form prop) n.form_is.is (subst (λ y. NotesLevel y c₂ (tree_at c₁ form) a₁ a₂ form prop) p₁ m) in
    let read : IsSortRead w c₂ T m₁.noted.sorted = m₁.noted.read in
    let Z : Tree = read.between in
    let l : Level = read.level in
    let R : Tree = F.type in
    let run : ProjectionRun w S F.field s T₀ T Z l R most = sort_told w S F.field s T₀ T F.sort_type Z F.level l R most F.run read.typed read.reduced in
    let st : IsStructureType w S T = run.structure in
    let name_is : name_at c₂ structure ≡ S = x₀₂.names.same structure hS in
    let form_is : tree_at c₂ form ≡ T = x₂.trees.same form n.form_is.known ∙ n.form_is.is in
    let k₁ : IsConstructorOf w c₃ S T r = subst (λ z. IsConstructorOf w c₃ S z r) form_is (subst (λ z. IsConstructorOf w c₃ z (tree_at c₂ form) r) name_is (subst (λ y. IsConstructorOf y c₃ (name_at c₂ structure) (tree_at c₂ form) r) p₂ k)) in
    let at : IsConstructorAt c₃ st r = k₁ st in
    let fs : IsWellFormed s = subst IsWellFormed F.is f in
    let s₀ : IsShapedAnswer (infer s) T₀ = shaped_answer w ok (infer s) T₀ run.first fs run.typed in
    let s₁ : IsShapedAnswer (whnf T₀) T = shaped_answer w ok (whnf T₀) T run.second s₀.0.1 run.reduced in
    let s_at : IsTree c₃ subject s = there c₀ c₃ subject s x₀₃ (record { known = hs; is = refl }) in
    let T₀_at : IsTree c₃ n.ty T₀ = there c₁ c₃ n.ty T₀ x₁₃ n.ty_is in
    let T_at : IsTree c₃ form T = there c₁ c₃ form T x₁₃ n.form_is in
    let Z_at : IsTree c₃ m₁.noted.sorted.ty Z = there c₂ c₃ m₁.noted.sorted.ty Z x₃ read.ty_is in
    let l_at : IsTree c₃ m₁.noted.sorted.sort (sort l) = there c₂ c₃ m₁.noted.sorted.sort (sort l) x₃ read.sort_is in
    let q₁ : AreAsked c₃ n.first (infer s ∷ []) (types s T₀ ∷ []) = type_asked c₃ a n.first [] [] subject n.ty s T₀ n.noted_type s_at T₀_at (nothing_asked c₃ a none) in
    let q₂ : AreAsked c₃ a₁ (infer s ∷ whnf T₀ ∷ []) (types s T₀ ∷ reduces T₀ T ∷ []) = form_asked c₃ n.first a₁ (infer s ∷ []) (types s T₀ ∷ []) n.ty form T₀ T n.noted_form T₀_at T_at q₁ in
    let q₃ : AreAsked c₃ m₁.noted.first (infer s ∷ whnf T₀ ∷ infer T ∷ []) (types s T₀ ∷ reduces T₀ T ∷ types T Z ∷ []) =
    type_asked c₃ a₁ m₁.noted.first (infer s ∷ whnf T₀ ∷ []) (types s T₀ ∷ reduces T₀ T ∷ []) form m₁.noted.sorted.ty T Z m₁.noted.typed T_at Z_at q₂ in
    let parameters_are : st.ind.parameters ≡ r.parameters = sym at.parameters_are in
    let prop_is : is_zero_level l ≡ prop = sym m₁.prop_is in
    record {
      name = S;
      field = F.field;
      subject = s;
      type = R;
      form = T;
      function = constructor_type st;
      queries = infer s ∷ whnf T₀ ∷ infer T ∷ whnf Z ∷ [];
      claims = types s T₀ ∷ reduces T₀ T ∷ types T Z ∷ reduces Z (sort l) ∷ [];
      left = run.left;
      e_is = record { known = (there c₀ c₃ e E x₀₃ (record { known = he; is = refl })).known; is = (there c₀ c₃ e E x₀₃ (record { known = he; is = refl })).is ∙ F.is };
      form_is = T_at;
      stated_is = at.ty_is;
      asked_are = form_asked c₃ m₁.noted.first a₂ (infer s ∷ whnf T₀ ∷ infer T ∷ []) (types s T₀ ∷ reduces T₀ T ∷ types T Z ∷ []) m₁.noted.sorted.ty m₁.noted.sorted.sort Z (sort l) m₁.noted.form Z_at l_at q₃;
      enough_arguments = let y = st.count in let z = at.parameters_are in omega (arith, y, z);
      fine = constructor_fine w S T st ok;
      arguments_fine = arguments_fine w S T st s₁.0.1;
      runs = subst (λ y. Runs w (projected S F.field s y (args T) r.parameters (constructor_type st)) R run.left) prop_is (subst (λ y. Runs w (projected S F.field s (is_zero_level l) (args T) y (constructor_type st)) R run.left) parameters_are run.runs);
      within = let y = run.paid in let z = run.within in omega (arith, y, z);
      finish = subst (λ y. ParametersFinish w S F.field s y (args T) r.parameters (constructor_type st) R run.left (infer s ∷ whnf T₀ ∷ infer T ∷ whnf Z ∷ []) (types s T₀ ∷ reduces T₀ T ∷ types T Z ∷ reduces Z (sort l) ∷ [])) prop_is
          (subst (λ y. ParametersFinish w S F.field s (is_zero_level l) (args T) y (constructor_type st) R run.left (infer s ∷ whnf T₀ ∷ infer T ∷ whnf Z ∷ []) (types s T₀ ∷ reduces T₀ T ∷ types T Z ∷ reduces Z (sort l) ∷ [])) parameters_are
          (projection_finish w ok S F.field s T₀ T Z l R most fs run));
    }

all_left : (xs ys : List Tree) → AllWellFormed (xs ++ ys) → AllWellFormed xs
all_left [] ys h = tt
all_left (x ∷ xs) ys h = (h.0, all_left xs ys h.1)

-- all parameters are ahead
pub parameters_begin : (w : Place) (c : Contents) (e most : ℕ) (b : Begun) (a : Asked) (xs : List ℕ) → IsBegun w c e most b a → AreTrees c xs (args (tree_at c b.form)) → IsParameterAt w c e most b.prop b.stated (take b.parameters xs) a
parameters_begin w c e most b a xs h t =
    let ys : List Tree = args h.form in
    let n : ℕ = b.parameters in
    let are : map (tree_at c) xs ≡ ys = t.are ∙ ap args h.form_is.is in
    let whole : ys ≡ take n ys ++ drop n ys = sym (take-append-drop n ys) in
    let count : n ≡ length (take n ys) = sym (length-take-le n ys h.enough_arguments) in
    record {
      name = h.name;
      field = h.field;
      subject = h.subject;
      type = h.type;
      function = h.function;
      arguments = take n ys;
      others = drop n ys;
      queries = h.queries;
      claims = h.claims;
      left = h.left;
      e_is = h.e_is;
      at_is = h.stated_is;
      ahead_are = record { known = All-take (λ x. x < length c.trees) n xs t.known; are = sym (take-map (tree_at c) n xs) ∙ ap (take n) are };
      asked_are = h.asked_are;
      fine = h.fine;
      arguments_fine = all_left (take n ys) (drop n ys) (subst AllWellFormed whole h.arguments_fine);
      runs = subst (λ m. Runs w (projected h.name h.field h.subject b.prop (take n ys ++ drop n ys) m h.function) h.type h.left) count
          (subst (λ zs. Runs w (projected h.name h.field h.subject b.prop zs n h.function) h.type h.left) whole h.runs);
      within = h.within;
      finish = subst (λ m. ParametersFinish w h.name h.field h.subject b.prop (take n ys ++ drop n ys) m h.function h.type h.left h.queries h.claims) count
          (subst (λ zs. ParametersFinish w h.name h.field h.subject b.prop zs n h.function h.type h.left h.queries h.claims) whole h.finish);
    }

proj_name : (S R : Name) (i j : ℕ) (s t : Tree) → proj S i s ≡ proj R j t → S ≡ R
proj_name S R i j s t e = cc

proj_field : (S R : Name) (i j : ℕ) (s t : Tree) → proj S i s ≡ proj R j t → i ≡ j
proj_field S R i j s t e = cc

proj_subject : (S R : Name) (i j : ℕ) (s t : Tree) → proj S i s ≡ proj R j t → s ≡ t
proj_subject S R i j s t e = cc

-- behind the parameters the fields begin
pub fields_begin : (w : Place) (c : Contents) (e most : ℕ) (prop : Bool) (at : ℕ) (a : Asked) (structure field subject : ℕ) → structure < length c.names → subject < length c.trees → tree_at c e ≡ proj (name_at c structure) field (tree_at c subject) →
    IsWellFormed (tree_at c e) → IsParameterAt w c e most prop at [] a → IsFieldAt w c (record { whole = e; structure = structure; field = field; subject = subject; prop = prop }) most 0 at a
fields_begin w c e most prop at a structure field subject hS hs is f h =
    let S : Name = h.name in
    let s : Tree = h.subject in
    let F : Tree = h.function in
    let both : proj (name_at c structure) field (tree_at c subject) ≡ proj S h.field s = sym is ∙ h.e_is.is in
    let name_is : name_at c structure ≡ S = proj_name (name_at c structure) S field h.field (tree_at c subject) s both in
    let field_is : h.field ≡ field = sym (proj_field (name_at c structure) S field h.field (tree_at c subject) s both) in
    let subject_is : tree_at c subject ≡ s = proj_subject (name_at c structure) S field h.field (tree_at c subject) s both in
    let none : h.arguments ≡ [] = sym h.ahead_are.are in
    let runs : Runs w (field_type S s prop 0 h.field F) h.type h.left = subst (λ zs. Runs w (projected S h.field s prop (zs ++ h.others) (length zs) F) h.type h.left) none h.runs in
    let finish : ParametersFinish w S h.field s prop h.others 0 F h.type h.left h.queries h.claims = subst (λ zs. ParametersFinish w S h.field s prop (zs ++ h.others) (length zs) F h.type h.left h.queries h.claims) none h.finish in
    let fields : FieldsFinish w S h.field s prop 0 h.field F h.type h.left h.queries h.claims = λ qs ks m p g k l. finish qs ks ks F m no_parameter p g k l in
    record {
      name = S;
      subject = s;
      type = h.type;
      function = F;
      ahead = field;
      queries = h.queries;
      claims = h.claims;
      left = h.left;
      whole_is = record { known = h.e_is.known; is = h.e_is.is ∙ ap (λ i. proj S i s) field_is };
      structure_is = record { known = hS; is = name_is };
      subject_is = record { known = hs; is = subject_is };
      at_is = h.at_is;
      asked_are = h.asked_are;
      fine = h.fine;
      subject_fine = subst IsWellFormed h.e_is.is f;
      count = omega arith;
      runs = subst (λ i. Runs w (field_type S s prop 0 i F) h.type h.left) field_is runs;
      within = h.within;
      finish = subst (λ i. FieldsFinish w S i s prop 0 i F h.type h.left h.queries h.claims) field_is fields;
    }

-- what may be asked for the weak head form of a type
pub formed_first : (w : Place) (e : Tree) (most : ℕ) → IsFormedWithin w e most → IsAnsweredWithin w (infer e) most
formed_first w e most h = (h.between, h.first, h.typed, h.first_within)

pub formed_second : (w u : Place) (e T : Tree) (most : ℕ) → u ≡ w → IsFormedWithin w e most → IsType w e T → IsAnsweredWithin u (whnf T) most
formed_second w u e T most p h t =
    let o : AreOne T h.between t.cost h.first = one_answer w (infer e) T h.between t.cost h.first t.answered h.typed in
    subst (λ v. IsAnsweredWithin v (whnf T) most) (sym p) (subst (λ z. IsAnsweredWithin w (whnf z) most) (sym o.answer) (h.form, h.second, h.reduced, h.second_within))

pub formed_noted : (w u : Place) (c d : Contents) (e : Tree) (a first b : Asked) (number ty form : ℕ) → u ≡ w → Extends c d → ty < length c.trees → form < length d.trees → IsType w e (tree_at c ty) → IsForm u (tree_at c ty) (tree_at d form) → NotesType a first number ty → NotesForm first b ty form →
    NotesFormed w d e a b number form
formed_noted w u c d e a first b number ty form p x ht hf t f n m = record {
  between = tree_at c ty;
  reduct = tree_at d form;
  ty = ty;
  first = first;
  ty_is = there c d ty (tree_at c ty) x (record { known = ht; is = refl });
  form_is = record { known = hf; is = refl };
  typed = t;
  reduced = subst (λ v. IsForm v (tree_at c ty) (tree_at d form)) p f;
  noted_type = n;
  noted_form = m;
}

-- the same, while the store grew
pub fields_there : (w : Place) (c d : Contents) (e most : ℕ) (prop : Bool) (at : ℕ) (a : Asked) (structure field subject : ℕ) → Extends c d → e < length c.trees → structure < length c.names → subject < length c.trees →
    tree_at c e ≡ proj (name_at c structure) field (tree_at c subject) → IsWellFormed (tree_at c e) → IsParameterAt w d e most prop at [] a → IsFieldAt w d (record { whole = e; structure = structure; field = field; subject = subject; prop = prop }) most 0 at a
fields_there w c d e most prop at a structure field subject x he hS hs is f h =
    let same : tree_at d e ≡ tree_at c e = x.trees.same e he in
    let names : length c.names ≤ length d.names = x.names.longer in
    let trees : length c.trees ≤ length d.trees = x.trees.longer in
    let parts : proj (name_at c structure) field (tree_at c subject) ≡ proj (name_at d structure) field (tree_at d subject) =
    ap (λ S. proj S field (tree_at c subject)) (sym (x.names.same structure hS)) ∙ ap (proj (name_at d structure) field) (sym (x.trees.same subject hs)) in
    fields_begin w d e most prop at a structure field subject (omega (arith, names, hS)) (omega (arith, trees, hs)) (same ∙ (is ∙ parts)) (subst IsWellFormed (sym same) f) h
