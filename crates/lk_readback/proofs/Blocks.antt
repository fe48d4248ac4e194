-- The lines of units and of budgets, and of all that is kept.
use Rattle.std.proofs.Common.{◌≡◌, ℕ, suc, ◌+◌, List, [], ◌∷◌, ◌++◌, length, Some, None, Ok}
use Rattle.std.proofs.Common.{refl, ap, sym, subst, ◌∙◌, arith}
use Rattle.std.specs.Prelude.{All}
use Rattle.std.specs.declared.option.Option.{Option}
use Rattle.std.proofs.lemmas.List.{append-nil, length-append}
use Rattle.std.proofs.lemmas.List.Elements.{All-nil, All-cons, All-head, All-tail}
use Rattle.lk_tree.specs.Tree.{Name}
use Rattle.lk_rulebook.specs.Place.{Ctor, BlockType, type_names, RecRule, BlockRecursor}
use Rattle.lk_rulebook.specs.Units.{LibraryUnit, of_decl, of_block}
use Rattle.lk_env.specs.Budgets.{StatedBudget}
use Rattle.lk_members.specs.Plain.{PlainMember}
use Rattle.lk_units.specs.State.{State, take_item}
use Rattle.lk_trim.specs.Written.{Written, File, line}
use Rattle.lk_trim.specs.Names.{write_name}
use Rattle.lk_trim.specs.Units.{write_unit, write_types, write_all_ctors}
use Rattle.lk_trim.specs.Whole.{Kept, budget_line, write_budget, write_kept, write_all}
use Rattle.lk_readback.specs.Statable.{IsSmall, IsName, AreNames, IsType, IsUnit, IsBudget}
use Rattle.lk_readback.specs.Within.{ctor_count, member_count, members_count}
use Rattle.lk_readback.specs.Stated.{type_members, ctor_members, all_ctor_members, rec_members}
use Rattle.lk_readback.specs.Stated.{stated_of, all_stated, said_by, kept_units, if_stated}
use Rattle.lk_readback.specs.Stated.{kept_budgets}
use Rattle.lk_readback.specs.Items.{budget_item}
use Rattle.lk_readback.proofs.Fronts.{grows_trans}
use Rattle.lk_readback.proofs.OneLine.{next}
use Rattle.lk_readback.proofs.Lines.{budget_is_line}
use Rattle.lk_readback.proofs.Wanted.{a_name, Knows, knows, name_writes}
use Rattle.lk_readback.proofs.Stating.{States, states_none, states_then, few_of, stated_in}
use Rattle.lk_readback.proofs.Stating.{fits_fewer}
use Rattle.lk_readback.proofs.Stating.{grows_line, plain_read}
use Rattle.lk_readback.proofs.Declaring.{decl_states, types_state, all_ctors_state}
use Rattle.lk_readback.proofs.Rules.{all_rules, recs_state}

-- A unit.
type_names_are : (ts : List BlockType) → All IsType ts → AreNames (type_names ts)
type_names_are [] h = All-nil IsName
type_names_are (t ∷ ts) h =
    All-cons IsName t.name (type_names ts) (All-head IsType t ts h).name
    (type_names_are ts (All-tail IsType t ts h))

length-type_names : (ts : List BlockType) → length (type_names ts) ≡ length ts
length-type_names [] = refl
length-type_names (t ∷ ts) = ap (λ n. suc n) (length-type_names ts)

abbrev unit_rules : LibraryUnit → List RecRule
unit_rules (of_decl d) = []
unit_rules (of_block b rs) = all_rules rs

unit_states : (u : LibraryUnit) (f : File) → IsUnit u
    → States f (write_unit u f) (unit_rules u) (stated_of u) []
unit_states (of_decl d) f unit = decl_states d f unit
unit_states (of_block b rs) f unit =
    let family = type_names b.types in
    let names = type_names_are b.types unit.types in
    let small : IsSmall (length family) =
    subst IsSmall (sym (length-type_names b.types)) unit.few in
    states_then (types_state family b.types f names small unit.types)
    (states_then (all_ctors_state b.types (write_types family b.types f) unit.types)
    (recs_state family rs (write_all_ctors b.types (write_types family b.types f)) names small
    unit.recursors))

-- A budget.
budget_taken : (s : State) (w : Written) (l : ℕ) (b : StatedBudget)
    → Knows s w (a_name b.name ∷ [])
    → take_item l s (budget_item b w) ≡ Ok (stated_in s s.lines (s.budgets ++ b ∷ []) s.count)
unfolding take_item
budget_taken s w l b k = rw k.0 refl

one_budget : (b : StatedBudget) (f : File) → IsBudget b
    → States f (write_budget (Some b) f) [] [] (b ∷ [])
unfolding line
one_budget b f budget =
    let g : File = write_name b.name f in
    let h : File = line (budget_line b) g in
    let parts = name_writes b.name f budget.name in
    record {
      grows = grows_trans f g h parts.grows (grows_line (budget_line b) g);
      on = λ rules c read fits faultless.
          let n = length c.state.lines in
          let plain : length {A = PlainMember} [] ≡ 0 = refl in
          let items = fits.items in
          let one =
          parts.on rules c read
          (fits_fewer n (n + length {A = PlainMember} []) g h (grows_line (budget_line b) g)
          (omega arith) fits) in
          let d = one.after in
          let took =
          budget_taken d.state g.written (d.number + 1) b
          (knows g (rules ++ []) d one.read (a_name b.name ∷ []) (parts.has read.anonymous)) in
          record {
            after =
                next d (length (budget_line b g.written))
                (stated_in d.state d.state.lines (d.state.budgets ++ b ∷ []) d.state.count);
            read =
                plain_read g (rules ++ []) d (budget_line b) (budget_item b g.written) d.state.lines
                (d.state.budgets ++ b ∷ []) d.state.count (n + length {A = PlainMember} []) one.read
                (budget_is_line b g.written (few_of g.written (omega arith)) budget) fits took
                one.read.count;
            lines = ap said_by one.same_lines ∙ sym (append-nil (said_by c.state.lines));
            budgets = ap (λ bs. bs ++ b ∷ []) one.same_budgets;
          };
    }

budget_states : (o : Option StatedBudget) (f : File) → All IsBudget (if_stated o)
    → States f (write_budget o f) [] [] (if_stated o)
budget_states None f budget = states_none f
budget_states (Some b) f budget = one_budget b f (All-head IsBudget b [] budget)

-- All that is kept.
kept_states : (k : Kept) (f : File) → IsUnit k.unit → All IsBudget (if_stated k.budget)
    → States f (write_kept k f) (unit_rules k.unit) (stated_of k.unit) (if_stated k.budget)
kept_states k f unit budget =
    let g : File = write_unit k.unit f in
    let h : File = write_kept k f in
    let P : List PlainMember → Type 0 = λ ms.
    States f h (unit_rules k.unit) ms (if_stated k.budget) in
    let Q : List RecRule → Type 0 = λ rs.
    States f h rs (stated_of k.unit ++ []) (if_stated k.budget) in
    subst P (append-nil (stated_of k.unit)) (subst Q (append-nil (unit_rules k.unit))
    (states_then (unit_states k.unit f unit) (budget_states k.budget g budget)))

pub budget_first : (o : Option StatedBudget) (bs : List StatedBudget)
    → All IsBudget (if_stated o ++ bs) → All IsBudget (if_stated o)
budget_first None bs h = All-nil IsBudget
budget_first (Some b) bs h = All-cons IsBudget b [] (All-head IsBudget b bs h) (All-nil IsBudget)

pub budget_rest : (o : Option StatedBudget) (bs : List StatedBudget)
    → All IsBudget (if_stated o ++ bs) → All IsBudget bs
budget_rest None bs h = h
budget_rest (Some b) bs h = All-tail IsBudget b bs h

abbrev pub rules_of : List Kept → List RecRule
rules_of [] = []
rules_of (k ∷ ks) = unit_rules k.unit ++ rules_of ks

pub all_state : (ks : List Kept) (f : File) → All IsUnit (kept_units ks)
    → All IsBudget (kept_budgets ks)
    → States f (write_all ks f) (rules_of ks) (all_stated (kept_units ks)) (kept_budgets ks)
all_state [] f units budgets = states_none f
all_state (k ∷ ks) f units budgets =
    states_then
    (kept_states k f (All-head IsUnit k.unit (kept_units ks) units)
    (budget_first k.budget (kept_budgets ks) budgets))
    (all_state ks (write_kept k f) (All-tail IsUnit k.unit (kept_units ks) units)
    (budget_rest k.budget (kept_budgets ks) budgets))

-- How many lines declare something.
length-types : (family : List Name) (ts : List BlockType)
    → length (type_members family ts) ≡ length ts
length-types family [] = refl
length-types family (t ∷ ts) = ap (λ n. suc n) (length-types family ts)

length-ctors : (cs : List Ctor) → length (ctor_members cs) ≡ length cs
length-ctors [] = refl
length-ctors (c ∷ cs) = ap (λ n. suc n) (length-ctors cs)

length-all_ctors : (ts : List BlockType) → length (all_ctor_members ts) ≡ ctor_count ts
length-all_ctors [] = refl
length-all_ctors (t ∷ ts) =
    let one = length-append (ctor_members t.ctors) (all_ctor_members ts) in
    let two = length-ctors t.ctors in
    let three = length-all_ctors ts in
    omega arith

length-recs : (family : List Name) (rs : List BlockRecursor)
    → length (rec_members family rs) ≡ length rs
length-recs family [] = refl
length-recs family (r ∷ rs) = ap (λ n. suc n) (length-recs family rs)

length-unit : (u : LibraryUnit) → length (stated_of u) ≡ member_count u
length-unit (of_decl d) = refl
length-unit (of_block b rs) =
    let family = type_names b.types in
    let types = type_members family b.types in
    let ctors = all_ctor_members b.types in
    let recs = rec_members family rs in
    let one = length-append types (ctors ++ recs) in
    let two = length-append ctors recs in
    let three = length-types family b.types in
    let four = length-all_ctors b.types in
    let five = length-recs family rs in
    omega arith

pub length-stated : (ks : List Kept) → length (all_stated (kept_units ks)) ≡ members_count ks
length-stated [] = refl
length-stated (k ∷ ks) =
    let one = length-append (stated_of k.unit) (all_stated (kept_units ks)) in
    let two = length-unit k.unit in
    let three = length-stated ks in
    omega arith
