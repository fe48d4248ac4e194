-- The lines of units, behind those of their parts.
use Rattle.std.specs.Prelude.{ℕ, ◌+◌, ◌-◌, Bool, true, false, List, [], ◌∷◌, ◌++◌, decimal, codes}
use Rattle.std.specs.List.{range_with_len}
use Rattle.lk_tree.specs.Tree.{Name}
use Rattle.lk_rulebook.specs.Place.{Hint, opaque_hint, abbreviation, regular, Ctor, BlockType}
use Rattle.lk_rulebook.specs.Place.{type_names, RecRule, Recursor, BlockRecursor}
use Rattle.lk_rulebook.specs.Units.{Body, as_axiom, as_def, as_thm, as_opaque, as_quot, Decl}
use Rattle.lk_rulebook.specs.Units.{LibraryUnit, of_decl, of_block}
use Rattle.lk_trim.specs.Written.{Written, File, fields, counted, line}
use Rattle.lk_trim.specs.Names.{name_number, name_numbers, write_name, write_names}
use Rattle.lk_trim.specs.Trees.{tree_number, write_tree}

-- A declaration: its name, type, value, hint and level parameters.
abbrev pub body_tag : Body → List ℕ
body_tag as_axiom = codes "#AX"
body_tag (as_def h v) = codes "#DEF"
body_tag (as_thm v) = codes "#THM"
body_tag (as_opaque v) = codes "#OPAQ"
body_tag as_quot = codes "#QUOT"

abbrev pub hint_fields : Hint → List ℕ
hint_fields opaque_hint = codes " O"
hint_fields abbreviation = codes " A"
hint_fields (regular n) = codes " R" ++ fields (n ∷ [])

abbrev pub body_fields : Written → Body → List ℕ
body_fields w as_axiom = []
body_fields w (as_def h v) = fields (tree_number w v ∷ []) ++ hint_fields h
body_fields w (as_thm v) = fields (tree_number w v ∷ [])
body_fields w (as_opaque v) = fields (tree_number w v ∷ [])
body_fields w as_quot = []

abbrev pub decl_line : Decl → Written → List ℕ
decl_line d w =
    body_tag d.body ++
    (fields (name_number w d.name ∷ tree_number w d.type ∷ []) ++
    (body_fields w d.body ++ fields (name_numbers w d.levels)))

abbrev pub write_body : Body → File → File
write_body as_axiom f = f
write_body (as_def h v) f = write_tree v f
write_body (as_thm v) f = write_tree v f
write_body (as_opaque v) f = write_tree v f
write_body as_quot f = f

abbrev pub write_decl : Decl → File → File
write_decl d f =
    line (decl_line d)
    (write_names d.levels (write_body d.body (write_tree d.type (write_name d.name f))))

-- A type of a block, whose types have these names.
abbrev pub ctor_names : List Ctor → List Name
ctor_names [] = []
ctor_names (c ∷ cs) = c.name ∷ ctor_names cs

unfoldable pub type_head : BlockType → Written → List ℕ
type_head t w =
    codes "#IND" ++
    fields (name_number w t.name ∷ tree_number w t.type ∷ 0 ∷ 0 ∷ t.parameters ∷ t.indices ∷ [])

abbrev pub type_line : List Name → BlockType → Written → List ℕ
type_line family t w =
    type_head t w ++
    (counted (name_numbers w family) ++
    (counted (name_numbers w (ctor_names t.ctors)) ++ fields (name_numbers w t.levels)))

abbrev pub write_type : List Name → BlockType → File → File
write_type family t f =
    line (type_line family t)
    (write_names t.levels (write_names (ctor_names t.ctors) (write_names family
    (write_tree t.type (write_name t.name f)))))

abbrev pub write_types : List Name → List BlockType → File → File
write_types family [] f = f
write_types family (t ∷ ts) f = write_types family ts (write_type family t f)

-- A constructor.
abbrev pub ctor_line : Ctor → Written → List ℕ
ctor_line c w =
    codes "#CTOR" ++
    (fields (name_number w c.name ∷ tree_number w c.type ∷ name_number w c.parent ∷ []) ++
    (fields (c.place ∷ c.parameters ∷ c.fields ∷ []) ++ fields (name_numbers w c.levels)))

abbrev pub write_ctor : Ctor → File → File
write_ctor c f =
    line (ctor_line c)
    (write_names c.levels (write_name c.parent (write_tree c.type (write_name c.name f))))

abbrev pub write_ctors : List Ctor → File → File
write_ctors [] f = f
write_ctors (c ∷ cs) f = write_ctors cs (write_ctor c f)

abbrev pub write_all_ctors : List BlockType → File → File
write_all_ctors [] f = f
write_all_ctors (t ∷ ts) f = write_all_ctors ts (write_ctors t.ctors f)

-- A recursor, behind the lines of its rules.
abbrev pub rule_line : RecRule → Written → List ℕ
rule_line r w =
    decimal w.rules ++
    (codes " #RR" ++ fields (name_number w r.ctor ∷ r.fields ∷ tree_number w r.value ∷ []))

abbrev pub one_rule_more : File → File
one_rule_more f = record f { written = record f.written { rules = f.written.rules + 1 } }

abbrev pub write_rule : RecRule → File → File
write_rule r f = one_rule_more (line (rule_line r) (write_tree r.value (write_name r.ctor f)))

abbrev pub write_rules : List RecRule → File → File
write_rules [] f = f
write_rules (r ∷ rs) f = write_rules rs (write_rule r f)

abbrev pub k_field : Bool → ℕ
k_field true = 1
k_field false = 0

-- the numbers of the rules that have a line since so many had one
abbrev pub rules_since : ℕ → Written → List ℕ
rules_since first w = range_with_len first (w.rules - first)

unfoldable pub shape_fields : ℕ → Recursor → Written → List ℕ
shape_fields first r w =
    fields (r.parameters ∷ r.indices ∷ r.motives ∷ r.minors ∷ []) ++
    (counted (rules_since first w) ++ fields (k_field r.k ∷ []))

unfoldable pub rec_head : BlockRecursor → Written → List ℕ
rec_head r w = codes "#REC" ++ fields (name_number w r.name ∷ tree_number w r.type ∷ [])

abbrev pub rec_line : List Name → ℕ → BlockRecursor → Written → List ℕ
rec_line family first r w =
    rec_head r w ++
    (counted (name_numbers w family) ++
    (shape_fields first r.recursor w ++ fields (name_numbers w r.levels)))

abbrev pub write_rec : List Name → BlockRecursor → File → File
write_rec family r f =
    line (rec_line family f.written.rules r)
    (write_names r.levels (write_rules r.recursor.rules (write_names family
    (write_tree r.type (write_name r.name f)))))

abbrev pub write_recs : List Name → List BlockRecursor → File → File
write_recs family [] f = f
write_recs family (r ∷ rs) f = write_recs family rs (write_rec family r f)

-- A unit: a declaration, or the types of a block, then their constructors, then the recursors.
abbrev pub write_unit : LibraryUnit → File → File
write_unit (of_decl d) f = write_decl d f
write_unit (of_block b rs) f =
    write_recs (type_names b.types) rs
    (write_all_ctors b.types (write_types (type_names b.types) b.types f))
