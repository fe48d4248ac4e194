-- The tests of a block, part by part.
use Rattle.std.proofs.Common.{◌≡◌, Bool, true, false, ◌&&◌, List, [], ◌∷◌, ◌++◌, map, refl, ap, sym, ◌∙◌}
use Rattle.std.specs.List.{list_all}
use Rattle.lk_tree.specs.Scan.{none_twice}
use Rattle.lk_rulebook.specs.Place.{Block as PlainBlock, BlockType as PlainType}
use Rattle.lk_rulebook.specs.Units.{Members, type_entries, ctor_entries, all_ctor_entries, rec_members, members_of, Trees, trees_of}
use Rattle.lk_rulebook.specs.Scan.{are_distinct, all_over}
use Rattle.lk_store.specs.Contents.{Contents}
use Rattle.lk_env.specs.declared.unit.Constructor.{Constructor}
use Rattle.lk_env.specs.declared.unit.BlockType.{BlockType}
use Rattle.lk_env.specs.declared.unit.Recursor.{Recursor}
use Rattle.lk_env.specs.declared.unit.Block.{Block}
use Rattle.lk_env.specs.declared.unit.Unit.TheVariants as unit
use Rattle.lk_env.specs.Units.{constructor_at, type_at, recursor_at, block_at, unit_at}
use Rattle.lk_env.proofs.Trees.{all_meet, block_is}
use Rattle.lk_scan.specs.Members.{type_different, constructor_different, constructors_different, recursor_different, is_over, type_over, constructors_over, recursor_over}

and_assoc : (x y z : Bool) → (x && (y && z)) ≡ ((x && y) && z)
and_assoc true y z = refl
and_assoc false y z = refl

-- Three tests one after another, of which all are to pass.
module _ (whole a b d x y z : Bool) (is : whole ≡ (a && (b && d))) where
  pub first_fails : x ≡ a → x ≡ false → false ≡ whole
  first_fails e h = sym (is ∙ ap (λ v. v && (b && d)) (sym e ∙ h))

  pub second_fails : x ≡ a → x ≡ true → y ≡ b → y ≡ false → false ≡ whole
  second_fails e h f k = sym (is ∙ ap (λ v. v && (b && d)) (sym e ∙ h) ∙ ap (λ v. v && d) (sym f ∙ k))

  pub third_is : x ≡ a → x ≡ true → y ≡ b → y ≡ true → z ≡ d → z ≡ whole
  third_is e h f k g = g ∙ sym (is ∙ ap (λ v. v && (b && d)) (sym e ∙ h) ∙ ap (λ v. v && d) (sym f ∙ k))

distinct-append : (xs ys : Members) → are_distinct (xs ++ ys) ≡ (are_distinct xs && are_distinct ys)
distinct-append [] ys = refl
distinct-append (x ∷ xs) ys = ap (λ b. none_twice x.1.levels && b) (distinct-append xs ys) ∙ and_assoc (none_twice x.1.levels) (are_distinct xs) (are_distinct ys)

both : (xs ys : Members) (a b : Bool) → are_distinct xs ≡ a → are_distinct ys ≡ b → are_distinct (xs ++ ys) ≡ (a && b)
both xs ys a b e f = distinct-append xs ys ∙ ap (λ v. v && are_distinct ys) e ∙ ap (λ v. a && v) f

module _ (c : Contents) where
  types_are : (p : PlainBlock) (ts : List BlockType) → are_distinct (type_entries p (map (type_at c) ts)) ≡ list_all (type_different c) ts
  types_are p [] = refl
  types_are p (t ∷ ts) = ap (λ b. type_different c t && b) (types_are p ts)

  ctors_are : (p : PlainBlock) (t : PlainType) (ks : List Constructor) → are_distinct (ctor_entries p t (map (constructor_at c) ks)) ≡ list_all (constructor_different c) ks
  ctors_are p t [] = refl
  ctors_are p t (k ∷ ks) = ap (λ b. constructor_different c k && b) (ctors_are p t ks)

  all_ctors_are : (p : PlainBlock) (ts : List BlockType) → are_distinct (all_ctor_entries p (map (type_at c) ts)) ≡ list_all (constructors_different c) ts
  all_ctors_are p [] = refl
  all_ctors_are p (t ∷ ts) =
      both (ctor_entries p (type_at c t) (map (constructor_at c) t.constructors.items)) (all_ctor_entries p (map (type_at c) ts)) (constructors_different c t) (list_all (constructors_different c) ts)
      (ctors_are p (type_at c t) t.constructors.items) (all_ctors_are p ts)

  recs_are : (rs : List Recursor) → are_distinct (rec_members (map (recursor_at c) rs)) ≡ list_all (recursor_different c) rs
  recs_are [] = refl
  recs_are (r ∷ rs) = ap (λ b. recursor_different c r && b) (recs_are rs)

  pub distinct_is : (b : Block) → are_distinct (members_of (unit_at c (unit.Block b)))
      ≡ (list_all (type_different c) b.types.items && (list_all (constructors_different c) b.types.items && list_all (recursor_different c) b.recursors.value.items))
  distinct_is b =
      let p = block_at c b in
      let ts = map (type_at c) b.types.items in
      let rs = map (recursor_at c) b.recursors.value.items in
      both (type_entries p ts) (all_ctor_entries p ts ++ rec_members rs) (list_all (type_different c) b.types.items) (list_all (constructors_different c) b.types.items && list_all (recursor_different c) b.recursors.value.items)
      (types_are p b.types.items)
      (both (all_ctor_entries p ts) (rec_members rs) (list_all (constructors_different c) b.types.items) (list_all (recursor_different c) b.recursors.value.items) (all_ctors_are p b.types.items) (recs_are b.recursors.value.items))

  over_is : (es : Trees) → all_over es ≡ all_meet is_over es
  over_is [] = refl
  over_is (e ∷ es) = ap (λ b. is_over e && b) (over_is es)

  pub declared_is : (b : Block) → all_over (trees_of (unit_at c (unit.Block b)))
      ≡ (list_all (type_over c) b.types.items && (list_all (constructors_over c) b.types.items && list_all (recursor_over c) b.recursors.value.items))
  declared_is b = over_is (trees_of (unit_at c (unit.Block b))) ∙ block_is c is_over b
