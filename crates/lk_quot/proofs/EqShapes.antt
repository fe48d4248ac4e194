-- What is read of an entry that may be Eq says whether it is.
use Rattle.std.proofs.Common.{◌≡◌, ℕ, ◌+◌, ◌<◌, Bool, true, false, ◌&&◌, nat_eq, List, []}
use Rattle.std.proofs.Common.{◌∷◌, length, map, Some, None, refl, ap, sym, subst, ◌∙◌}
use Rattle.std.proofs.lemmas.List.{length-map, length-append}
use Rattle.std.proofs.lemmas.List.Elements.{All-head}
use Rattle.std.proofs.lemmas.List.Sums.{sum_by-cons}
use Rattle.std.specs.List.{sum_by}
use Rattle.std.specs.Prelude.{All, Result, Ok, Err, IfOk}
use Rattle.lk_tree.specs.Tree.{Name, Tree}
use Rattle.lk_rulebook.specs.Place.{Entry, Kind, Block, BlockType as PlainType, a_def, a_thm}
use Rattle.lk_rulebook.specs.Place.{an_axiom, an_opaque, a_quot, a_type, a_ctor, a_rec}
use Rattle.lk_rulebook.specs.Quotients.{ctors_from}
use Rattle.lk_questions.specs.QuotientUnits.{is_eq_type, is_refl_alone, is_eq}
use Rattle.lk_store.specs.Contents.{Contents, Extends}
use Rattle.lk_env.specs.declared.unit.BlockType.{BlockType}
use Rattle.lk_env.specs.Units.{type_at, constructor_at}
use Rattle.lk_env.specs.Lent.{type_in}
use Rattle.lk_quot.specs.declared.equality.EqShape.{EqShape}
use Rattle.lk_quot.specs.Equality.{constructor_count, is_eq_shape, IsEqShapeIn}

-- the only one of numbers that are below a bound
pub only_in : (n : ℕ) (xs : List ℕ) (x : ℕ) → All (λ k. k < n) xs → xs ≡ x ∷ [] → x < n
only_in n xs x known h = All-head (λ k. k < n) x [] (subst (All (λ k. k < n)) h known)

-- as many constructors as are stored
pub counted : (c : Contents) (ts : List BlockType)
    → length (ctors_from (map (type_at c) ts)) ≡ sum_by constructor_count ts
counted c [] = refl
counted c (t ∷ ts) =
    length-append (map (constructor_at c) t.constructors.items) (ctors_from (map (type_at c) ts))
    ∙ ap (λ n. n + length (ctors_from (map (type_at c) ts)))
    (length-map t.constructors.items (constructor_at c))
    ∙ ap (λ n. constructor_count t + n) (counted c ts) ∙ sym (sum_by-cons constructor_count t ts)

and_false : (b : Bool) → (b && false) ≡ false
and_false true = refl
and_false false = refl

-- the types of a block have just one constructor
abbrev pub has_one : Block → Bool
has_one b = nat_eq (length (ctors_from b.types)) 1

-- an entry that is no type of a block is not Eq
pub no_type : (g : Entry) (k : Kind) → type_in k ≡ None → is_eq g k ≡ false
no_type g (a_type b t) h = absurd (cc)
no_type g (a_def i v) h = refl
no_type g (a_thm v) h = refl
no_type g an_axiom h = refl
no_type g (an_opaque v) h = refl
no_type g a_quot h = refl
no_type g (a_ctor b t k) h = refl
no_type g (a_rec r) h = refl

-- of a type with its block
module _ (g : Entry) (b : Block) (t : PlainType) where
  pub by_type : (k : Kind) → type_in k ≡ Some (b, t)
      → is_eq g k ≡ (is_eq_type g.levels g.type && (is_refl_alone t.ctors && has_one b))
  by_type (a_type c s) h =
      let both : (c, s) ≡ (b, t) = cc in
      ap (λ (p : Block × PlainType). is_eq_type g.levels g.type
      && (is_refl_alone p.1.ctors && has_one p.0)) both
  by_type (a_def i v) h = absurd (cc)
  by_type (a_thm v) h = absurd (cc)
  by_type an_axiom h = absurd (cc)
  by_type (an_opaque v) h = absurd (cc)
  by_type a_quot h = absurd (cc)
  by_type (a_ctor c s k) h = absurd (cc)
  by_type (a_rec r) h = absurd (cc)

  module _ (k : Kind) (is : type_in k ≡ Some (b, t)) where
    -- its only constructor is not Eq.refl
    pub no_refl : is_refl_alone t.ctors ≡ false → is_eq g k ≡ false
    no_refl h = by_type k is
        ∙ ap (λ (r : Bool). is_eq_type g.levels g.type && (r && has_one b)) h
        ∙ and_false (is_eq_type g.levels g.type)

    -- its block has another number of constructors
    pub other_count : has_one b ≡ false → is_eq g k ≡ false
    other_count h = by_type k is
        ∙ ap (λ (r : Bool). is_eq_type g.levels g.type && (is_refl_alone t.ctors && r)) h
        ∙ ap (λ (r : Bool). is_eq_type g.levels g.type && r) (and_false (is_refl_alone t.ctors))
        ∙ and_false (is_eq_type g.levels g.type)

    -- it has just one
    pub one_count : (levels : List Name) (T : Tree) (refl_alone : Bool) → g.levels ≡ levels
        → g.type ≡ T → is_refl_alone t.ctors ≡ refl_alone → has_one b ≡ true
        → is_eq g k ≡ (is_eq_type levels T && refl_alone)
    one_count levels T r l y a h = by_type k is
        ∙ ap (λ (s : Bool). is_eq_type g.levels g.type && (is_refl_alone t.ctors && s)) h
        ∙ ap (λ (s : Bool). is_eq_type g.levels g.type && s) (and_true (is_refl_alone t.ctors) ∙ a)
        ∙ ap (λ xs. is_eq_type xs g.type && r) l ∙ ap (λ e. is_eq_type levels e && r) y
      where
        and_true : (b : Bool) → (b && true) ≡ b
        and_true true = refl
        and_true false = refl

-- over a store that has what the library has, they are the same
pub eq_shape_steady : (c d : Contents) → Extends c d → (p : EqShape) → IsEqShapeIn c p
    → is_eq_shape d (Some p) ≡ is_eq_shape c (Some p)
eq_shape_steady c d x p known =
    let level = x.names.same p.level known.level_in in
    let ty = x.trees.same p.ty known.ty_in in
    let name = x.names.same p.constructor.name known.constructor_in.name_in in
    let param = x.names.same p.constructor.level known.constructor_in.level_in in
    let stated = x.trees.same p.constructor.ty known.constructor_in.ty_in in
    rw (level, ty, name, param, stated) refl

-- a test that answers what another one does
pub answered_as : {E : Type 0} (r : Result Bool E) (b : Bool) (P : Bool → Type 0)
    → IfOk r (λ c. c ≡ b) → P b → IfOk r P
answered_as (Ok c) b P is h = subst P (sym is) h
answered_as (Err e) b P is h = tt
