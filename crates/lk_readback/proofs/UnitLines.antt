-- The lines of units: declarations, types, constructors, rules, recursors; and those of budgets.
use Rattle.std.proofs.Common.{◌≡◌, ℕ, ◌-◌, List, [], ◌∷◌, ◌++◌, length, sym, ap, ◌∙◌, subst, arith}
use Rattle.std.specs.Prelude.{decimal, codes}
use mathlib.Core.List.{append_assoc}
use Rattle.lk_tree.specs.Tree.{Name}
use Rattle.lk_rulebook.specs.Place.{Hint, opaque_hint, abbreviation, regular, Ctor, BlockType}
use Rattle.lk_rulebook.specs.Place.{RecRule, BlockRecursor}
use Rattle.lk_rulebook.specs.Units.{Body, as_axiom, as_def, as_thm, as_opaque, as_quot, Decl}
use Rattle.lk_env.specs.Budgets.{StatedBudget}
use Rattle.lk_lines.specs.declared.dues.Due.TheVariants as due
use Rattle.lk_lines.specs.declared.dues.Numbering.TheVariants.{Names}
use Rattle.lk_lines.specs.declared.tags.EntryTag.TheVariants as entry
use Rattle.lk_lines.specs.declared.tags.DeclarationTag.TheVariants as declaration
use Rattle.lk_lines.specs.Values.{Number, OfHint, Flag, Numbers}
use Rattle.lk_trim.specs.Written.{Written, fields, counted}
use Rattle.lk_trim.specs.Names.{name_number, name_numbers}
use Rattle.lk_trim.specs.Trees.{tree_number}
use Rattle.lk_trim.specs.Units.{body_tag, hint_fields, body_fields, decl_line, ctor_names}
use Rattle.lk_trim.specs.Units.{type_head, type_line}
use Rattle.lk_trim.specs.Units.{ctor_line, rule_line, k_field, rules_since, shape_fields}
use Rattle.lk_trim.specs.Units.{rec_head, rec_line}
use Rattle.lk_trim.specs.Whole.{budget_line}
use Rattle.lk_readback.specs.Statable.{IsSmall, IsHint, IsBody, IsDecl, IsType, IsCtor, IsRule}
use Rattle.lk_readback.specs.Statable.{IsRecursor, IsBudget}
use Rattle.lk_readback.specs.Items.{hint_value, decl_item_of, decl_item, type_item, ctor_item}
use Rattle.lk_readback.specs.Items.{rule_item, rec_item}
use Rattle.lk_readback.specs.Items.{budget_item}
use Rattle.lk_readback.proofs.Joined.{spaced}
use Rattle.lk_readback.proofs.Spelled.{AreSmall, AreSpelled, nothing_due, known, plain_number}
use Rattle.lk_readback.proofs.Spelled.{long_number, rest_due}
use Rattle.lk_readback.proofs.Spelled.{counted_due, flag_number, opaque_hint_due, abbreviation_due}
use Rattle.lk_readback.proofs.Spelled.{regular_due}
use Rattle.lk_readback.proofs.Spelled.{numerals, spaced_numerals, front_numerals}
use Rattle.lk_readback.proofs.WholeLine.{IsLine, AreFew, numbered_line, declared_line, stated_line}
use Rattle.lk_readback.proofs.WholeLine.{line_again}
use Rattle.lk_readback.proofs.Sizes.{name_small, tree_small, map_small, since_small, length_since}
use Rattle.lk_readback.proofs.Sizes.{length_map}
use Rattle.lk_readback.proofs.Sizes.{length_ctor_names}

names_small : (w : Written) → AreFew w → (xs : List Name) → AreSmall (name_numbers w xs)
names_small w few xs = map_small (name_number w) (name_small w few) xs

-- Declarations.

-- the end of a definition's line
abbrev hint_end : Hint → List ℕ → List (List ℕ)
hint_end opaque_hint ps = codes "O" ∷ numerals ps
hint_end abbreviation ps = codes "A" ∷ numerals ps
hint_end (regular n) ps = codes "R" ∷ decimal n ∷ numerals ps

hint_spaced : (h : Hint) (ps : List ℕ) → hint_fields h ++ fields ps ≡ spaced (hint_end h ps)
hint_spaced opaque_hint ps = ap (λ more. codes " O" ++ more) (sym (spaced_numerals ps))
hint_spaced abbreviation ps = ap (λ more. codes " A" ++ more) (sym (spaced_numerals ps))
hint_spaced (regular n) ps =
    ap (λ more. codes " R" ++ more)
    (front_numerals (n ∷ []) (fields ps) (numerals ps) (sym (spaced_numerals ps)))

hint_spelled : (h : Hint) (ps text : List ℕ) → IsHint h → AreSmall ps
    → AreSpelled (due.Hint ∷ due.Rest Names ∷ []) text (hint_end h ps)
    (OfHint (hint_value h) ∷ Numbers ps ∷ [])
hint_spelled opaque_hint ps text h small = opaque_hint_due (rest_due ps small)
hint_spelled abbreviation ps text h small = abbreviation_due (rest_due ps small)
hint_spelled (regular n) ps text h small = regular_due n h (rest_due ps small)

-- the fields behind the tag
abbrev body_end : Written → Body → ℕ → ℕ → List ℕ → List (List ℕ)
body_end w as_axiom n a ps = numerals (n ∷ a ∷ ps)
body_end w (as_def h v) n a ps = decimal n ∷ decimal a ∷ decimal (tree_number w v) ∷ hint_end h ps
body_end w (as_thm v) n a ps = numerals (n ∷ a ∷ tree_number w v ∷ ps)
body_end w (as_opaque v) n a ps = numerals (n ∷ a ∷ tree_number w v ∷ ps)
body_end w as_quot n a ps = numerals (n ∷ a ∷ ps)

end_spaced : (b : Body) (w : Written) (n a : ℕ) (ps : List ℕ)
    → fields (n ∷ a ∷ []) ++ (body_fields w b ++ fields ps) ≡ spaced (body_end w b n a ps)
end_spaced as_axiom w n a ps =
    front_numerals (n ∷ a ∷ []) (fields ps) (numerals ps) (sym (spaced_numerals ps))
end_spaced (as_def h v) w n a ps =
    front_numerals (n ∷ a ∷ []) ((fields (tree_number w v ∷ []) ++ hint_fields h) ++ fields ps)
    (decimal (tree_number w v) ∷ hint_end h ps)
    (append_assoc (fields (tree_number w v ∷ [])) (hint_fields h) (fields ps)
    ∙ front_numerals (tree_number w v ∷ []) (hint_fields h ++ fields ps) (hint_end h ps)
    (hint_spaced h ps))
end_spaced (as_thm v) w n a ps =
    front_numerals (n ∷ a ∷ []) (fields (tree_number w v ∷ []) ++ fields ps)
    (numerals (tree_number w v ∷ ps))
    (front_numerals (tree_number w v ∷ []) (fields ps) (numerals ps) (sym (spaced_numerals ps)))
end_spaced (as_opaque v) w n a ps =
    front_numerals (n ∷ a ∷ []) (fields (tree_number w v ∷ []) ++ fields ps)
    (numerals (tree_number w v ∷ ps))
    (front_numerals (tree_number w v ∷ []) (fields ps) (numerals ps) (sym (spaced_numerals ps)))
end_spaced as_quot w n a ps =
    front_numerals (n ∷ a ∷ []) (fields ps) (numerals ps) (sym (spaced_numerals ps))

end_line : (b : Body) (w : Written) (n a : ℕ) (ps : List ℕ) → AreFew w → IsBody b → IsSmall n
    → IsSmall a
    → AreSmall ps → IsLine (body_tag b ++ spaced (body_end w b n a ps)) (decl_item_of b w n a ps)
end_line as_axiom w n a ps few body p q r =
    declared_line declaration.Axiom (numerals (n ∷ a ∷ ps)) (Number n ∷ Number a ∷ Numbers ps ∷ [])
    (λ t. known n p (known a q (rest_due ps r)))
end_line (as_def h v) w n a ps few body p q r =
    declared_line declaration.Definition
    (decimal n ∷ decimal a ∷ decimal (tree_number w v) ∷ hint_end h ps)
    (Number n ∷ Number a ∷ Number (tree_number w v) ∷ OfHint (hint_value h) ∷ Numbers ps ∷ [])
    (λ t. known n p
    (known a q (known (tree_number w v) (tree_small w few v) (hint_spelled h ps t body.0 r))))
end_line (as_thm v) w n a ps few body p q r =
    declared_line declaration.Theorem (numerals (n ∷ a ∷ tree_number w v ∷ ps))
    (Number n ∷ Number a ∷ Number (tree_number w v) ∷ Numbers ps ∷ [])
    (λ t. known n p (known a q (known (tree_number w v) (tree_small w few v) (rest_due ps r))))
end_line (as_opaque v) w n a ps few body p q r =
    declared_line declaration.Opaque (numerals (n ∷ a ∷ tree_number w v ∷ ps))
    (Number n ∷ Number a ∷ Number (tree_number w v) ∷ Numbers ps ∷ [])
    (λ t. known n p (known a q (known (tree_number w v) (tree_small w few v) (rest_due ps r))))
end_line as_quot w n a ps few body p q r =
    declared_line declaration.Quotient (numerals (n ∷ a ∷ ps))
    (Number n ∷ Number a ∷ Numbers ps ∷ [])
    (λ t. known n p (known a q (rest_due ps r)))

pub decl_line_said : (d : Decl) (w : Written) → AreFew w → IsDecl d
    → IsLine (decl_line d w) (decl_item d w)
decl_line_said d w few decl =
    let n : ℕ = name_number w d.name in
    let a : ℕ = tree_number w d.type in
    let ps : List ℕ = name_numbers w d.levels in
    line_again (decl_line d w) (body_tag d.body ++ spaced (body_end w d.body n a ps))
    (decl_item d w)
    (ap (λ more. body_tag d.body ++ more) (end_spaced d.body w n a ps))
    (end_line d.body w n a ps few decl.body (name_small w few d.name) (tree_small w few d.type)
    (names_small w few d.levels))

-- Types of blocks.
length_names : (w : Written) (xs : List Name) → IsSmall (length xs)
    → IsSmall (length (name_numbers w xs))
length_names w xs small = subst (λ (n : ℕ). IsSmall n) (sym (length_map (name_number w) xs)) small

few_ctors : (w : Written) (cs : List Ctor) → IsSmall (length cs)
    → IsSmall (length (name_numbers w (ctor_names cs)))
few_ctors w cs small =
    length_names w (ctor_names cs) (subst (λ (n : ℕ). IsSmall n) (sym (length_ctor_names cs)) small)

pub type_line_said : (family : List Name) (t : BlockType) (w : Written) → AreFew w
    → IsSmall (length family) → IsType t → IsLine (type_line family t w) (type_item family t w)
unfolding type_head
type_line_said family t w few small type =
    let n : ℕ = name_number w t.name in
    let a : ℕ = tree_number w t.type in
    let fs : List ℕ = name_numbers w family in
    let cs : List ℕ = name_numbers w (ctor_names t.ctors) in
    let ls : List ℕ = name_numbers w t.levels in
    let head : List ℕ = n ∷ a ∷ 0 ∷ 0 ∷ t.parameters ∷ t.indices ∷ [] in
    let zero : IsSmall 0 = omega arith in
    line_again (type_line family t w)
    (codes "#IND" ++ spaced
    (numerals head ++ (numerals (length fs ∷ fs) ++ (numerals (length cs ∷ cs) ++ numerals ls))))
    (type_item family t w)
    (ap (λ more. codes "#IND" ++ more)
    (front_numerals head (counted fs ++ (counted cs ++ fields ls))
    (numerals (length fs ∷ fs) ++ (numerals (length cs ∷ cs) ++ numerals ls))
    (front_numerals (length fs ∷ fs) (counted cs ++ fields ls)
    (numerals (length cs ∷ cs) ++ numerals ls)
    (front_numerals (length cs ∷ cs) (fields ls) (numerals ls) (sym (spaced_numerals ls))))))
    (declared_line declaration.Inductive
    (numerals head ++ (numerals (length fs ∷ fs) ++ (numerals (length cs ∷ cs) ++ numerals ls)))
    (Number n ∷ Number a ∷ Number 0 ∷ Number 0 ∷ Number t.parameters ∷ Number t.indices ∷ Numbers fs
    ∷ Numbers cs
    ∷ Numbers ls ∷ [])
    (λ text. known n (name_small w few t.name) (known a (tree_small w few t.type)
    (plain_number 0 zero (plain_number 0 zero (plain_number t.parameters type.parameters
    (plain_number t.indices type.indices
    (counted_due fs (length_names w family small) (names_small w few family)
    (counted_due cs (few_ctors w t.ctors type.few) (names_small w few (ctor_names t.ctors))
    (rest_due ls (names_small w few t.levels)))))))))))

-- Constructors.
pub ctor_line_said : (parent : Name) (c : Ctor) (w : Written) → AreFew w → IsCtor parent c
    → IsLine (ctor_line c w) (ctor_item c w)
ctor_line_said parent c w few ctor =
    let n : ℕ = name_number w c.name in
    let a : ℕ = tree_number w c.type in
    let p : ℕ = name_number w c.parent in
    let ls : List ℕ = name_numbers w c.levels in
    let first : List ℕ = n ∷ a ∷ p ∷ [] in
    let second : List ℕ = c.place ∷ c.parameters ∷ c.fields ∷ [] in
    line_again (ctor_line c w)
    (codes "#CTOR" ++ spaced (numerals first ++ (numerals second ++ numerals ls)))
    (ctor_item c w)
    (ap (λ more. codes "#CTOR" ++ more)
    (front_numerals first (fields second ++ fields ls) (numerals second ++ numerals ls)
    (front_numerals second (fields ls) (numerals ls) (sym (spaced_numerals ls)))))
    (declared_line declaration.Constructor (numerals first ++ (numerals second ++ numerals ls))
    (Number n ∷ Number a ∷ Number p ∷ Number c.place ∷ Number c.parameters ∷ Number c.fields
    ∷ Numbers ls ∷ [])
    (λ text. known n (name_small w few c.name) (known a (tree_small w few c.type)
    (known p (name_small w few c.parent) (plain_number c.place ctor.place
    (plain_number c.parameters ctor.parameters (plain_number c.fields ctor.fields
    (rest_due ls (names_small w few c.levels)))))))))

-- Rules.
pub rule_line_said : (r : RecRule) (w : Written) → AreFew w → IsSmall w.rules → IsRule r
    → IsLine (rule_line r w) (rule_item r w)
rule_line_said r w few small rule =
    numbered_line w.rules entry.Rule
    (decimal (name_number w r.ctor) ∷ decimal r.fields ∷ decimal (tree_number w r.value) ∷ [])
    (Number (name_number w r.ctor) ∷ Number r.fields ∷ Number (tree_number w r.value) ∷ []) small
    (λ t. known (name_number w r.ctor) (name_small w few r.ctor) (plain_number r.fields rule.fields
    (known (tree_number w r.value) (tree_small w few r.value) (nothing_due t))))

-- Recursors.
regroup : (a b c d : List ℕ) → (a ++ (b ++ c)) ++ d ≡ a ++ (b ++ (c ++ d))
regroup a b c d = append_assoc a (b ++ c) d ∙ ap (λ more. a ++ more) (append_assoc b c d)

pub rec_line_said : (family : List Name) (first : ℕ) (r : BlockRecursor) (w : Written) → AreFew w
    → IsSmall (length family) → IsSmall (w.rules - first) → IsRecursor r
    → IsLine (rec_line family first r w) (rec_item family first r w)
unfolding rec_head shape_fields
rec_line_said family first r w few small since recursor =
    let n : ℕ = name_number w r.name in
    let a : ℕ = tree_number w r.type in
    let fs : List ℕ = name_numbers w family in
    let rs : List ℕ = rules_since first w in
    let ls : List ℕ = name_numbers w r.levels in
    let head : List ℕ = n ∷ a ∷ [] in
    let shape : List ℕ =
    r.recursor.parameters ∷ r.recursor.indices ∷ r.recursor.motives ∷ r.recursor.minors ∷ [] in
    let flag : List ℕ = k_field r.recursor.k ∷ [] in
    let some : IsSmall (length rs) =
    subst (λ (m : ℕ). IsSmall m) (sym (length_since first w)) since in
    line_again (rec_line family first r w)
    (codes "#REC" ++ spaced (numerals head ++ (numerals (length fs ∷ fs) ++ (numerals shape
    ++ (numerals (length rs ∷ rs) ++ (numerals flag ++ numerals ls))))))
    (rec_item family first r w)
    (ap (λ more. codes "#REC" ++ more)
    (front_numerals head
    (counted fs ++ ((fields shape ++ (counted rs ++ fields flag)) ++ fields ls))
    (numerals (length fs ∷ fs) ++
    (numerals shape ++ (numerals (length rs ∷ rs) ++ (numerals flag ++ numerals ls))))
    (front_numerals (length fs ∷ fs) ((fields shape ++ (counted rs ++ fields flag)) ++ fields ls)
    (numerals shape ++ (numerals (length rs ∷ rs) ++ (numerals flag ++ numerals ls)))
    (regroup (fields shape) (counted rs) (fields flag) (fields ls)
    ∙ front_numerals shape (counted rs ++ (fields flag ++ fields ls))
    (numerals (length rs ∷ rs) ++ (numerals flag ++ numerals ls))
    (front_numerals (length rs ∷ rs) (fields flag ++ fields ls) (numerals flag ++ numerals ls)
    (front_numerals flag (fields ls) (numerals ls) (sym (spaced_numerals ls))))))))
    (declared_line declaration.Recursor
    (numerals head ++ (numerals (length fs ∷ fs) ++ (numerals shape
    ++ (numerals (length rs ∷ rs) ++ (numerals flag ++ numerals ls)))))
    (Number n ∷ Number a ∷ Numbers fs ∷ Number r.recursor.parameters ∷ Number r.recursor.indices
    ∷ Number r.recursor.motives ∷ Number r.recursor.minors ∷ Numbers rs ∷ Flag r.recursor.k
    ∷ Numbers ls ∷ [])
    (λ text. known n (name_small w few r.name) (known a (tree_small w few r.type)
    (counted_due fs (length_names w family small) (names_small w few family)
    (plain_number r.recursor.parameters recursor.parameters
    (plain_number r.recursor.indices recursor.indices
    (plain_number r.recursor.motives recursor.motives
    (plain_number r.recursor.minors recursor.minors
    (counted_due rs some (since_small first w few)
    (flag_number r.recursor.k (rest_due ls (names_small w few r.levels))))))))))))

-- Budgets.
pub budget_line_said : (b : StatedBudget) (w : Written) → AreFew w → IsBudget b
    → IsLine (budget_line b w) (budget_item b w)
budget_line_said b w few budget =
    stated_line (decimal (name_number w b.name) ∷ decimal b.steps ∷ [])
    (Number (name_number w b.name) ∷ Number b.steps ∷ [])
    (λ t. known (name_number w b.name) (name_small w few b.name)
    (long_number b.steps budget.steps (nothing_due t)))
