-- Items, lines and units whose names hold no line feed, as those of a file.
use Rattle.std.specs.Prelude.{◌≡◌, true, List, [], ◌∷◌, ◌++◌}
use Rattle.lk_tree.specs.Tree.{Name, Tree}
use Rattle.lk_rulebook.specs.Place.{Ctor, BlockType, RecRule, BlockRecursor}
use Rattle.lk_rulebook.specs.Units.{Body, as_axiom, as_def, as_thm, as_opaque, as_quot, Decl, LibraryUnit, of_decl, of_block, Library}
use Rattle.lk_rulebook.specs.Spelled.{no_lf, is_spelled, tree_spelled}
use Rattle.lk_members.specs.Lines.{alone, a_type, a_ctor, a_recursor}
use Rattle.lk_members.specs.Plain.{Head, PlainMember, PlainLine}
use Rattle.lk_lines.specs.declared.tags.EntryTag.TheVariants as entry
use Rattle.lk_lines.specs.declared.tags.Tag.{Tag}
use Rattle.lk_lines.specs.declared.tags.Tag.TheVariants.{Entry}
use Rattle.lk_lines.specs.Items.{Item}
use Rattle.lk_lines.specs.Values.{Value}
use Rattle.lk_lines.specs.Values as value

-- each has P
abbrev pub Each : {X : Type 0} → (X → Type 0) → List X → Type 0
Each P [] = Unit {0}
Each P (x ∷ xs) = P x × Each P xs

pub each_append : {X : Type 0} (P : X → Type 0) (xs ys : List X) → Each P xs → Each P ys → Each P (xs ++ ys)
each_append P [] ys h g = g
each_append P (x ∷ xs) ys h g = (h.0, each_append P xs ys h.1 g)

-- the text of a name's component holds no line feed
abbrev pub AreSpelledValues : Tag → List Value → Type 0
AreSpelledValues (Entry entry.NameText) (value.Number p ∷ value.Bytes bytes ∷ []) = no_lf bytes ≡ true
AreSpelledValues t values = Unit {0}

abbrev pub IsSpelledItem : Item → Type 0
IsSpelledItem item = AreSpelledValues item.tag item.values

abbrev pub IsSpelledName : Name → Type 0
IsSpelledName n = is_spelled n ≡ true

abbrev pub IsSpelledTree : Tree → Type 0
IsSpelledTree e = tree_spelled e ≡ true

abbrev pub IsSpelledBody : Body → Type 0
IsSpelledBody as_axiom = Unit {0}
IsSpelledBody (as_def h v) = IsSpelledTree v
IsSpelledBody (as_thm v) = IsSpelledTree v
IsSpelledBody (as_opaque v) = IsSpelledTree v
IsSpelledBody as_quot = Unit {0}

abbrev pub IsSpelledDecl : Decl → Type 0
IsSpelledDecl d = IsSpelledName d.name × IsSpelledTree d.type × IsSpelledBody d.body

-- members of blocks
abbrev pub IsSpelledCtor : Ctor → Type 0
IsSpelledCtor c = IsSpelledName c.name × IsSpelledTree c.type

abbrev pub IsSpelledType : BlockType → Type 0
IsSpelledType t = IsSpelledName t.name × IsSpelledTree t.type × Each IsSpelledCtor t.ctors

abbrev pub IsSpelledRule : RecRule → Type 0
IsSpelledRule r = IsSpelledTree r.value

abbrev pub IsSpelledRec : BlockRecursor → Type 0
IsSpelledRec r = IsSpelledName r.name × IsSpelledTree r.type × Each IsSpelledRule r.recursor.rules

abbrev pub IsSpelledUnit : LibraryUnit → Type 0
IsSpelledUnit (of_decl d) = IsSpelledDecl d
IsSpelledUnit (of_block b rs) = Each IsSpelledType b.types × Each IsSpelledRec rs

abbrev pub AreSpelledUnits : Library → Type 0
AreSpelledUnits us = Each IsSpelledUnit us

-- what a line states
abbrev pub IsSpelledHead : Head → Type 0
IsSpelledHead h = IsSpelledName h.name × IsSpelledTree h.type

abbrev pub IsSpelledMember : PlainMember → Type 0
IsSpelledMember (alone d) = IsSpelledDecl d
IsSpelledMember (a_type n ts cs h) = IsSpelledHead h
IsSpelledMember (a_ctor p n c) = IsSpelledCtor c
IsSpelledMember (a_recursor ts n r) = IsSpelledRec r

abbrev pub AreSpelledLines : List PlainLine → Type 0
AreSpelledLines ls = Each (λ (l : PlainLine). IsSpelledMember l.said) ls

abbrev pub AreSpelledParts : List (List PlainLine) → Type 0
AreSpelledParts parts = Each AreSpelledLines parts
