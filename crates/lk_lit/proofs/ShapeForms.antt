-- The programs of the shapes, by what is tested of the entry.
use Rattle.std.proofs.Common.{◌≡◌, Bool, false, ◌&&◌, Option, length, refl, ap, ◌∙◌, true, if◌then◌else◌}
use Rattle.lk_tree.specs.declared.rule.Rule.TheVariants.{BuiltinShape}
use Rattle.lk_rulebook.specs.Place.{Entry, Kind, Block, BlockType, a_def, a_thm, an_axiom, an_opaque, a_quot, a_type, a_ctor, a_rec}
use Rattle.lk_questions.specs.Program.{Program, done, refuse, ◌>>=◌}
use Rattle.lk_questions.specs.Steps.{given}
use Rattle.lk_questions.specs.Shapes.{is_sort_one, nat_shape_by, has_string_shape}
use Rattle.lk_env.specs.Lent.{type_in}
use Rattle.lk_lit.specs.Shapes.{is_alone, has_nat_counts, has_nat_ctors}

-- once it is known whether its type is Sort 1
abbrev pub nat_end : Option (Block × BlockType) → Bool → Program (Unit {0})
nat_end o one = given (one && has_nat_ctors o) BuiltinShape (done tt)

nat_form : (g : Entry) (k : Kind) → nat_shape_by g k
    ≡ given (has_nat_counts (length g.levels) (type_in k)) BuiltinShape (is_sort_one g.type >>= nat_end (type_in k))
nat_form g (a_def h v) = refl
nat_form g (a_thm v) = refl
nat_form g an_axiom = refl
nat_form g (an_opaque v) = refl
nat_form g a_quot = refl
nat_form g (a_type b t) = refl
nat_form g (a_ctor b t k) = refl
nat_form g (a_rec r) = refl

module _ (g : Entry) (k : Kind) where
  pub nat_counted : has_nat_counts (length g.levels) (type_in k) ≡ true
      → nat_shape_by g k ≡ (is_sort_one g.type >>= nat_end (type_in k))
  nat_counted h = nat_form g k ∙ ap (λ b. given b BuiltinShape (is_sort_one g.type >>= nat_end (type_in k))) h

  pub nat_miscounted : has_nat_counts (length g.levels) (type_in k) ≡ false → nat_shape_by g k ≡ refuse BuiltinShape
  nat_miscounted h = nat_form g k ∙ ap (λ b. given b BuiltinShape (is_sort_one g.type >>= nat_end (type_in k))) h

string_form : (g : Entry) (k : Kind) → has_string_shape g k
    ≡ (if is_alone (length g.levels) (type_in k) then is_sort_one g.type else done false)
string_form g (a_def h v) = refl
string_form g (a_thm v) = refl
string_form g an_axiom = refl
string_form g (an_opaque v) = refl
string_form g a_quot = refl
string_form g (a_type b t) = refl
string_form g (a_ctor b t k) = refl
string_form g (a_rec r) = refl

module _ (g : Entry) (k : Kind) where
  pub string_alone : is_alone (length g.levels) (type_in k) ≡ true → has_string_shape g k ≡ is_sort_one g.type
  string_alone h = string_form g k ∙ ap (λ b. if b then is_sort_one g.type else done false) h

  pub string_not_alone : is_alone (length g.levels) (type_in k) ≡ false → has_string_shape g k ≡ done false
  string_not_alone h = string_form g k ∙ ap (λ b. if b then is_sort_one g.type else done false) h
