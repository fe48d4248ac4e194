-- Fields that keep a block from being eliminated into every universe, and types and constructors of which there is one.
use Rattle.std.proofs.Common.{◌≡◌, ℕ, Bool, true, false, ◌||◌, List, [], ◌∷◌, map, All, refl, sym, ap, subst, ◌∙◌}
use Rattle.std.specs.Prelude.{if◌then◌else◌}
use Rattle.std.proofs.lemmas.List.Elements.{All-head, All-tail}
use Rattle.lk_tree.specs.Tree.{Tree, Level}
use Rattle.lk_tree.specs.Level.{is_zero_level}
use Rattle.lk_questions.specs.Program.{done, ◌>>=◌}
use Rattle.lk_questions.specs.Erased.{Out}
use Rattle.lk_questions.specs.Steps.{sort_of}
use Rattle.lk_inductive.specs.Block as plain
use Rattle.lk_inductive.specs.Block.{domain}
use Rattle.lk_inductive.specs.BlockSteps.{is_among, small_steps, one_ctor_steps, one_type_steps}
use Rattle.lk_store.specs.Contents.{Contents, tree_at, Extends}
use Rattle.lk_subst.specs.Numbers.{trees-steady}
use Rattle.lk_ask.specs.declared.stop.Stop.{Stop}
use Rattle.lk_ask.specs.Asking.{Standing}
use Rattle.lk_block.specs.declared.shape.Field.{Field}
use Rattle.lk_block.specs.declared.shape.ConstructorShape.{ConstructorShape}
use Rattle.lk_block.specs.declared.shape.TypeShape.{TypeShape}
use Rattle.lk_declaration.specs.Courses.{run_then, Goes, Halts}
use Rattle.lk_block.specs.Shapes.{field_at, constructor_shape_at, type_shape_at, IsFieldIn, IsConstructorShapeIn, IsTypeShapeIn}
use Rattle.lk_block.specs.Smalls.{small_form}
use Rattle.lk_declaration.proofs.Running.{run_bind, halts_first, ends_at}
use Rattle.lk_declaration.proofs.Leading.{Splits}

-- one field, and then the others
pub small_split : (is is' : List Tree) (fs : List plain.Field) (f : plain.Field) (more : List plain.Field) (x : Tree) → fs ≡ f ∷ more → is' ≡ is → x ≡ f.variable
    → Splits (small_steps is fs) (small_form is' x) (λ small. if small then small_steps is more else done false)
small_split is is' fs f more x cons same variable = record {
  run = λ answer w b k.
      let next : Bool → ℕ → Out = λ small left. run_then answer w (if small then small_steps is more else done false) left k in
      ap (λ y. run_then answer w (small_steps is y) b k) cons
      ∙ run_bind answer w (sort_of (domain f.variable)) (λ s. if is_zero_level s || is_among f.variable is then small_steps is more else done false) b k
      ∙ sym (run_bind answer w (sort_of (domain f.variable)) (λ s. done (is_zero_level s || is_among f.variable is)) b next)
      ∙ ap (λ q. run_then answer w (small_form q f.variable) b next) (sym same)
      ∙ ap (λ y. run_then answer w (small_form is' y) b next) (sym variable);
}

module _ {Base : Type 0} (t : Standing Base) (is : List Tree) (x ty : Tree) (b : ℕ) (is_type : ty ≡ domain x) where
  pub small_stops : (stop : Stop) → Halts t (sort_of ty) b stop → Halts t (small_form is x) b stop
  small_stops stop h = halts_first t (sort_of (domain x)) (λ s. done (is_zero_level s || is_among x is)) b stop (subst (λ q. Halts t (sort_of q) b stop) is_type h)

  small_goes : (s : Level) (c d : ℕ) (z : Bool) → Goes t (sort_of ty) b s c → z ≡ (is_zero_level s || is_among x is) → d ≡ c → Goes t (small_form is x) b z d
  small_goes s c d z h e kept =
      ends_at t (sort_of (domain x)) (λ s. done (is_zero_level s || is_among x is)) b c d s (is_zero_level s || is_among x is) z (subst (λ q. Goes t (sort_of q) b s c) is_type h) refl e kept

  pub small_proof : (s : Level) (c : ℕ) (r : Bool) → Goes t (sort_of ty) b s c → r ≡ is_zero_level s → r ≡ true → Goes t (small_form is x) b true c
  small_proof s c r h e yes_zero = small_goes s c c true h (sym (ap (λ z. z || is_among x is) (sym e ∙ yes_zero))) refl

  pub small_index : (s : Level) (c : ℕ) (r z : Bool) → Goes t (sort_of ty) b s c → r ≡ is_zero_level s → r ≡ false → z ≡ is_among x is → Goes t (small_form is x) b z c
  small_index s c r z h e no_zero among = small_goes s c c z h (among ∙ sym (ap (λ z. z || is_among x is) (sym e ∙ no_zero))) refl

-- what is asked of shapes stays
module _ (c d : Contents) (x : Extends c d) where
  small_kept : (is : List Tree) (fs : List Field) → All (IsFieldIn c) fs → small_steps is (map (field_at d) fs) ≡ small_steps is (map (field_at c) fs)
  small_kept is [] h = refl
  small_kept is (f ∷ fs) h =
      let known = All-head (IsFieldIn c) f fs h in
      let others = small_kept is fs (All-tail (IsFieldIn c) f fs h) in
      ap (λ v. sort_of (domain v) >>= λ s. if is_zero_level s || is_among v is then small_steps is (map (field_at d) fs) else done false) (x.trees.same f.variable known.variable_in)
      ∙ ap (λ q. sort_of (domain (tree_at c f.variable)) >>= λ s. if is_zero_level s || is_among (tree_at c f.variable) is then q else done false) others

  constructors_kept : (cs : List ConstructorShape) → All (IsConstructorShapeIn c) cs → one_ctor_steps (map (constructor_shape_at d) cs) ≡ one_ctor_steps (map (constructor_shape_at c) cs)
  constructors_kept [] h = refl
  constructors_kept (k ∷ []) h =
      let known = All-head (IsConstructorShapeIn c) k [] h in
      ap (λ is. small_steps is (map (field_at d) k.fields.items)) (trees-steady c d k.indices.items x known.indices_in) ∙ small_kept (map (tree_at c) k.indices.items) k.fields.items known.fields_in
  constructors_kept (k ∷ l ∷ cs) h = refl

  pub shapes_kept : (ts : List TypeShape) → All (IsTypeShapeIn c) ts → one_type_steps (map (type_shape_at d) ts) ≡ one_type_steps (map (type_shape_at c) ts)
  shapes_kept [] h = refl
  shapes_kept (t ∷ []) h = constructors_kept t.constructors.items (All-head (IsTypeShapeIn c) t [] h).constructors_in
  shapes_kept (t ∷ u ∷ ts) h = refl
