-- The lines of declarations, types and constructors, behind what they refer to.
use Rattle.std.proofs.Common.{◌≡◌, ℕ, List, [], ◌∷◌, length, Ok}
use Rattle.std.proofs.Common.{refl, ap, sym, subst, ◌∙◌}
use Rattle.std.specs.Prelude.{All}
use Rattle.std.proofs.lemmas.List.Elements.{All-nil, All-cons, All-head, All-tail}
use Rattle.lk_tree.specs.Tree.{Name, Tree}
use Rattle.lk_rulebook.specs.Place.{Hint, opaque_hint, abbreviation, regular, Ctor, BlockType}
use Rattle.lk_rulebook.specs.Units.{Body, as_axiom, as_def, as_thm, as_opaque, as_quot, Decl}
use Rattle.lk_members.specs.Lines.{alone}
use Rattle.lk_lines.specs.Reading.{◌>>=◌}
use Rattle.lk_units.specs.State.{State, known, all_known, hint_said, value_body}
use Rattle.lk_units.specs.State.{declaration_said, type_said, ctor_said, declared, take_item}
use Rattle.lk_units.proofs.Lines.{declaration_made}
use Rattle.lk_trim.specs.Written.{Written, File}
use Rattle.lk_trim.specs.Names.{name_number, name_numbers, write_name, write_names}
use Rattle.lk_trim.specs.Trees.{tree_number, write_tree}
use Rattle.lk_trim.specs.Units.{ctor_names, write_body, write_decl, write_type, write_types}
use Rattle.lk_trim.specs.Units.{write_ctor, write_ctors, write_all_ctors, decl_line, type_line}
use Rattle.lk_trim.specs.Units.{ctor_line}
use Rattle.lk_readback.specs.Statable.{IsSmall, IsName, AreNames, IsDecl, IsCtor, IsType}
use Rattle.lk_readback.specs.Stated.{type_member, type_members, ctor_member, ctor_members}
use Rattle.lk_readback.specs.Stated.{all_ctor_members}
use Rattle.lk_readback.specs.Items.{hint_value, decl_item, decl_item_of, type_item, ctor_item}
use Rattle.lk_readback.proofs.Lines.{decl_is_line, type_is_line, ctor_is_line}
use Rattle.lk_readback.proofs.Wanted.{a_name, some_names, a_tree, KnowsBody, Knows}
use Rattle.lk_readback.proofs.Wanted.{writes_then, name_writes, names_writes, tree_writes}
use Rattle.lk_readback.proofs.Wanted.{body_writes}
use Rattle.lk_readback.proofs.Stating.{States, states_none, states_then, few_of, line_states}

-- A declaration.
hint_back : (h : Hint) → hint_said (hint_value h) ≡ h
hint_back opaque_hint = refl
hint_back abbreviation = refl
hint_back (regular n) = refl

value_known : (s : State) (f : Tree → Body) (v : ℕ) (e : Tree) → known s.trees v ≡ Ok e
    → value_body s f v ≡ Ok (f e)
value_known s f v e h = ap (λ o. o >>= λ value. Ok (f value)) h

module _ (s : State) (w : Written) (l n a : ℕ) (ps : List ℕ) (name : Name) (type : Tree)
    (levels : List Name) (has_name : known s.names n ≡ Ok name)
    (has_type : known s.trees a ≡ Ok type)
    (has_levels : all_known s.names ps ≡ Ok levels) where
  decl_taken : (b : Body) → KnowsBody s w b
      → take_item l s (decl_item_of b w n a ps)
      ≡ declared l s (Ok (alone (record { name = name; levels = levels; type = type; body = b })))
  unfolding take_item declaration_said
  decl_taken as_axiom h =
      ap (declared l s)
      (declaration_made s n a (Ok as_axiom) ps name type as_axiom levels has_name has_type refl
      has_levels)
  decl_taken (as_def i v) h =
      let f : Tree → Body = λ e. as_def (hint_said (hint_value i)) e in
      let value = value_known s f (tree_number w v) v h ∙ ap (λ k. Ok (as_def k v)) (hint_back i) in
      ap (declared l s)
      (declaration_made s n a (value_body s f (tree_number w v)) ps name type (as_def i v) levels
      has_name has_type value has_levels)
  decl_taken (as_thm v) h =
      ap (declared l s)
      (declaration_made s n a (value_body s (λ e. as_thm e) (tree_number w v)) ps name type
      (as_thm v) levels has_name has_type (value_known s (λ e. as_thm e) (tree_number w v) v h)
      has_levels)
  decl_taken (as_opaque v) h =
      ap (declared l s)
      (declaration_made s n a (value_body s (λ e. as_opaque e) (tree_number w v)) ps name type
      (as_opaque v) levels has_name has_type
      (value_known s (λ e. as_opaque e) (tree_number w v) v h) has_levels)
  decl_taken as_quot h =
      ap (declared l s)
      (declaration_made s n a (Ok as_quot) ps name type as_quot levels has_name has_type refl
      has_levels)

-- the file behind all that the line of a declaration refers to
abbrev decl_parts : Decl → File → File
decl_parts d f =
    write_names d.levels (write_body d.body (write_tree d.type (write_name d.name f)))

pub decl_states : (d : Decl) (f : File) → IsDecl d → States f (write_decl d f) [] (alone d ∷ []) []
decl_states d f decl =
    let w = (decl_parts d f).written in
    line_states (decl_line d) (decl_item d) (alone d)
    (writes_then (name_writes d.name f decl.name)
    (writes_then (tree_writes d.type (write_name d.name f) decl.type)
    (writes_then (body_writes d.body (write_tree d.type (write_name d.name f)) decl.body)
    (names_writes d.levels (write_body d.body (write_tree d.type (write_name d.name f)))
    decl.levels))))
    (λ few. decl_is_line d w (few_of w few) decl)
    (λ rules c e l begun read k.
    decl_taken e.state w l (name_number w d.name) (tree_number w d.type) (name_numbers w d.levels)
    d.name d.type d.levels k.0 k.1.0 k.1.1.1.0 d.body k.1.1.0)

-- A type.
type_taken : (s : State) (w : Written) (l : ℕ) (family : List Name) (t : BlockType)
    → Knows s w (a_name t.name ∷ a_tree t.type ∷ some_names family ∷ some_names (ctor_names t.ctors)
    ∷ some_names t.levels ∷ [])
    → take_item l s (type_item family t w) ≡ declared l s (Ok (type_member family t))
unfolding take_item declaration_said
type_taken s w l family t k =
    let said : type_said s (name_number w t.name) (tree_number w t.type) t.parameters t.indices
    (name_numbers w family) (name_numbers w (ctor_names t.ctors)) (name_numbers w t.levels)
    ≡ Ok (type_member family t) =
    rw (k.0, k.1.0, k.1.1.0, k.1.1.1.0, k.1.1.1.1.0) refl in
    ap (declared l s) said

ctor_names_are : (x : Name) (cs : List Ctor) → All (IsCtor x) cs → AreNames (ctor_names cs)
ctor_names_are x [] h = All-nil IsName
ctor_names_are x (c ∷ cs) h =
    All-cons IsName c.name (ctor_names cs) (All-head (IsCtor x) c cs h).name
    (ctor_names_are x cs (All-tail (IsCtor x) c cs h))

-- the file behind all that the line of a type refers to
abbrev type_parts : List Name → BlockType → File → File
type_parts family t f =
    write_names t.levels (write_names (ctor_names t.ctors) (write_names family
    (write_tree t.type (write_name t.name f))))

pub type_states : (family : List Name) (t : BlockType) (f : File) → AreNames family
    → IsSmall (length family) → IsType t
    → States f (write_type family t f) [] (type_member family t ∷ []) []
type_states family t f names small type =
    let w = (type_parts family t f).written in
    line_states (type_line family t) (type_item family t) (type_member family t)
    (writes_then (name_writes t.name f type.name)
    (writes_then (tree_writes t.type (write_name t.name f) type.type)
    (writes_then (names_writes family (write_tree t.type (write_name t.name f)) names)
    (writes_then (names_writes (ctor_names t.ctors)
    (write_names family (write_tree t.type (write_name t.name f)))
    (ctor_names_are t.name t.ctors type.ctors))
    (names_writes t.levels (write_names (ctor_names t.ctors)
    (write_names family (write_tree t.type (write_name t.name f)))) type.levels)))))
    (λ few. type_is_line family t w (few_of w few) small type)
    (λ rules c e l begun read k. type_taken e.state w l family t k)

pub types_state : (family : List Name) (ts : List BlockType) (f : File) → AreNames family
    → IsSmall (length family) → All IsType ts
    → States f (write_types family ts f) [] (type_members family ts) []
types_state family [] f names small types = states_none f
types_state family (t ∷ ts) f names small types =
    states_then (type_states family t f names small (All-head IsType t ts types))
    (types_state family ts (write_type family t f) names small (All-tail IsType t ts types))

-- A constructor.
ctor_taken : (s : State) (w : Written) (l : ℕ) (c : Ctor)
    → Knows s w (a_name c.name ∷ a_tree c.type ∷ a_name c.parent ∷ some_names c.levels ∷ [])
    → take_item l s (ctor_item c w) ≡ declared l s (Ok (ctor_member c))
unfolding take_item declaration_said
ctor_taken s w l c k =
    let said : ctor_said s (name_number w c.name) (tree_number w c.type) (name_number w c.parent)
    c.place c.parameters c.fields (name_numbers w c.levels) ≡ Ok (ctor_member c) =
    rw (k.0, k.1.0, k.1.1.0, k.1.1.1.0) refl in
    ap (declared l s) said

-- the file behind all that the line of a constructor refers to
abbrev ctor_parts : Ctor → File → File
ctor_parts c f =
    write_names c.levels (write_name c.parent (write_tree c.type (write_name c.name f)))

ctor_states : (x : Name) (c : Ctor) (f : File) → IsName x → IsCtor x c
    → States f (write_ctor c f) [] (ctor_member c ∷ []) []
ctor_states x c f name ctor =
    let w = (ctor_parts c f).written in
    line_states (ctor_line c) (ctor_item c) (ctor_member c)
    (writes_then (name_writes c.name f ctor.name)
    (writes_then (tree_writes c.type (write_name c.name f) ctor.type)
    (writes_then (name_writes c.parent (write_tree c.type (write_name c.name f))
    (subst IsName (sym ctor.parent_is) name))
    (names_writes c.levels (write_name c.parent (write_tree c.type (write_name c.name f)))
    ctor.levels))))
    (λ few. ctor_is_line x c w (few_of w few) ctor)
    (λ rules d e l begun read k. ctor_taken e.state w l c k)

ctors_state : (x : Name) (cs : List Ctor) (f : File) → IsName x → All (IsCtor x) cs
    → States f (write_ctors cs f) [] (ctor_members cs) []
ctors_state x [] f name ctors = states_none f
ctors_state x (c ∷ cs) f name ctors =
    states_then (ctor_states x c f name (All-head (IsCtor x) c cs ctors))
    (ctors_state x cs (write_ctor c f) name (All-tail (IsCtor x) c cs ctors))

pub all_ctors_state : (ts : List BlockType) (f : File) → All IsType ts
    → States f (write_all_ctors ts f) [] (all_ctor_members ts) []
all_ctors_state [] f types = states_none f
all_ctors_state (t ∷ ts) f types =
    let type = All-head IsType t ts types in
    states_then (ctors_state t.name t.ctors f type.name type.ctors)
    (all_ctors_state ts (write_ctors t.ctors f) (All-tail IsType t ts types))
