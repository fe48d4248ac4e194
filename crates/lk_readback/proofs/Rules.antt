-- The lines of rules, and of recursors behind their rules.
use Rattle.std.proofs.Common.{◌≡◌, ℕ, ◌<◌, ◌^◌, ◌+◌, ◌-◌, List}
use Rattle.std.proofs.Common.{[], ◌∷◌}
use Rattle.std.proofs.Common.{◌++◌, length, Some, None, Ok, refl, ap, sym, subst, ◌∙◌, append_assoc}
use Rattle.std.proofs.Common.{arith}
use Rattle.std.specs.Prelude.{All, slice_get}
use Rattle.std.specs.declared.option.Option.{Option}
use Rattle.std.specs.List.{range_with_len}
use Rattle.std.proofs.lemmas.List.{append-nil, length-append, length_push}
use Rattle.std.proofs.lemmas.List.Elements.{All-head, All-tail}
use Rattle.std.proofs.lemmas.Option.{slice_get_past}
use Rattle.lk_tree.specs.Tree.{Name}
use Rattle.lk_rulebook.specs.Place.{RecRule, BlockRecursor}
use Rattle.lk_lines.specs.Reading.{◌>>=◌}
use Rattle.lk_units.specs.State.{State, all_known, put, counted, with_rule, rule_of, entry_added}
use Rattle.lk_units.specs.State.{declaration_said, recursor_said, declared, take_item}
use Rattle.lk_trim.specs.Written.{Written, File, line}
use Rattle.lk_trim.specs.Names.{name_number, name_numbers, write_name, write_names}
use Rattle.lk_trim.specs.Trees.{tree_number, write_tree}
use Rattle.lk_trim.specs.Units.{rule_line, rec_line, rules_since, one_rule_more, write_rule}
use Rattle.lk_trim.specs.Units.{write_rules, write_rec, write_recs}
use Rattle.lk_readback.specs.Statable.{IsSmall, AreNames, IsRule, IsRecursor}
use Rattle.lk_readback.specs.Within.{defined_count}
use Rattle.lk_readback.specs.Stated.{IsRead, rec_member, rec_members}
use Rattle.lk_readback.specs.Items.{rule_item, rec_item}
use Rattle.lk_readback.proofs.Growing.{Grows}
use Rattle.lk_readback.proofs.Fronts.{front_refl, grows_trans, fits_front}
use Rattle.lk_readback.proofs.OneLine.{next, line_read}
use Rattle.lk_readback.proofs.Adding.{put_stands}
use Rattle.lk_readback.proofs.Lines.{rule_is_line, rec_is_line}
use Rattle.lk_readback.proofs.Wanted.{a_name, some_names, a_tree, Knows, knows, all_known-cons}
use Rattle.lk_readback.proofs.Wanted.{Writes, writes_none, writes_then, name_writes, names_writes}
use Rattle.lk_readback.proofs.Wanted.{tree_writes}
use Rattle.lk_readback.proofs.Stating.{States, states_none, states_then, few_of, counted_is}
use Rattle.lk_readback.proofs.Stating.{line_states}

-- A rule.
grows_rule : (f : File) (r : RecRule) → Grows f (one_rule_more (line (rule_line r) f))
unfolding line
grows_rule f r = record {
  text = record { more = rule_line r f.written ++ 10 ∷ []; is = refl };
  names = front_refl f.written.names;
  levels = front_refl f.written.levels;
  trees = front_refl f.written.trees;
  rules = omega arith;
}

-- the state where a rule came on
abbrev with_one : State → ℕ → RecRule → State
with_one s own r = record s { rules = put s.rules own r; count = s.count + 1 }

rule_taken : (s : State) (w : Written) (l : ℕ) (r : RecRule)
    → Knows s w (a_name r.ctor ∷ a_tree r.value ∷ []) → s.rules w.rules ≡ None
    → s.count + 1 < 2 ^ 32
    → take_item l s (rule_item r w) ≡ Ok (with_one s w.rules r)
unfolding take_item entry_added
rule_taken s w l r k free less =
    let said : rule_of s (name_number w r.ctor) r.fields (tree_number w r.value) ≡ Ok r =
    rw (k.0, k.1.0) refl in
    let t : State = record s { rules = put s.rules w.rules r } in
    ap (λ o. with_rule s w.rules o >>= λ u. counted u) said
    ∙ rw free (counted_is t less)

rule_writes : (r : RecRule) (f : File) → IsRule r → Writes f (write_rule r f) (r ∷ []) []
unfolding line
rule_writes r f rule =
    let g : File = write_tree r.value (write_name r.ctor f) in
    let h : File = write_rule r f in
    let parts =
    writes_then (name_writes r.ctor f rule.ctor)
    (tree_writes r.value (write_name r.ctor f) rule.value) in
    record {
      grows = grows_trans f g h parts.grows (grows_rule g r);
      on = λ rules c read fits.
          let n = length c.state.lines in
          let items = fits.items in
          let one = parts.on rules c read (fits_front n g h (grows_rule g r) fits) in
          let d = one.after in
          let Ruled : List RecRule → Type 0 = λ rs. IsRead g rs d in
          let inner : IsRead g rules d = subst Ruled (append-nil rules) one.read in
          let own = g.written.rules in
          let many = inner.rules_many in
          let count = inner.count in
          let same = ap length one.same_lines in
          let free : d.state.rules own ≡ None =
          inner.rules_are own ∙ slice_get_past rules own (omega arith) in
          let less : d.state.count + 1 < 2 ^ 32 = omega arith in
          let small : defined_count g.written < 2 ^ 32 = omega arith in
          let took =
          rule_taken d.state g.written (d.number + 1) r
          (knows g rules d inner (a_name r.ctor ∷ a_tree r.value ∷ []) (parts.has read.anonymous))
          free less in
          let behind =
          line_read g h rules d (rule_line r g.written) (rule_item r g.written)
          (with_one d.state own r) n inner
          (rule_is_line r g.written (few_of g.written small) (omega arith) rule) refl fits took in
          let long = length_push rules r in
          record {
            after = next d (length (rule_line r g.written)) (with_one d.state own r);
            read = record {
              leads = behind.leads;
              dialect = behind.dialect;
              begun = behind.begun;
              before = behind.before;
              anonymous = inner.anonymous;
              zero = inner.zero;
              names = inner.names;
              levels = inner.levels;
              trees = inner.trees;
              rules_are = λ n.
                  ap (λ k. put d.state.rules k r n) (sym many)
                  ∙ put_stands d.state.rules rules inner.rules_are r n;
              rules_many = omega arith;
              count = omega arith;
            };
            same_lines = one.same_lines;
            same_budgets = one.same_budgets;
          };
      has = λ first. tt;
    }

rules_write : (rs : List RecRule) (f : File) → All IsRule rs → Writes f (write_rules rs f) rs []
rules_write [] f rules = writes_none f
rules_write (r ∷ rs) f rules =
    writes_then (rule_writes r f (All-head IsRule r rs rules))
    (rules_write rs (write_rule r f) (All-tail IsRule r rs rules))

-- the numbers of the rules behind those before them
rules_known : (mean : ℕ → Option RecRule) (rules rs : List RecRule) (first : ℕ)
    → ((n : ℕ) → mean n ≡ slice_get (rules ++ rs) n) → length rules ≡ first
    → all_known mean (range_with_len first (length rs)) ≡ Ok rs
rules_known mean rules [] first means long = refl
rules_known mean rules (r ∷ rs) first means long =
    all_known-cons mean first (range_with_len (first + 1) (length rs)) r rs
    (means first ∙ ap (slice_get (rules ++ r ∷ rs)) (sym long) ∙ at rules)
    (rules_known mean (rules ++ r ∷ []) rs (first + 1)
    (λ n. means n ∙ ap (λ l. slice_get l n) (sym (append_assoc rules (r ∷ []) rs)))
    (omega (arith, length_push rules r)))
  where
    at : (ys : List RecRule) → slice_get (ys ++ r ∷ rs) (length ys) ≡ Some r
    at [] = refl
    at (y ∷ ys) = at ys

-- A recursor.
rec_taken : (s : State) (w : Written) (l first : ℕ) (family : List Name) (r : BlockRecursor)
    → Knows s w (a_name r.name ∷ a_tree r.type ∷ some_names family ∷ some_names r.levels ∷ [])
    → all_known s.rules (rules_since first w) ≡ Ok r.recursor.rules
    → take_item l s (rec_item family first r w) ≡ declared l s (Ok (rec_member family r))
unfolding take_item declaration_said
rec_taken s w l first family r k rules =
    let said : recursor_said s (name_number w r.name) (tree_number w r.type) (name_numbers w family)
    (record {
      parameters = r.recursor.parameters;
      indices = r.recursor.indices;
      motives = r.recursor.motives;
      minors = r.recursor.minors;
      k = r.recursor.k;
    }) (rules_since first w) (name_numbers w r.levels) ≡ Ok (rec_member family r) =
    rw (k.0, k.1.0, k.1.1.0, rules, k.1.1.1.0) refl in
    ap (declared l s) said

-- the file behind the rules of a recursor and all else that its line refers to
abbrev rec_parts : List Name → BlockRecursor → File → File
rec_parts family r f =
    write_names r.levels (write_rules r.recursor.rules (write_names family
    (write_tree r.type (write_name r.name f))))

rec_writes : (family : List Name) (r : BlockRecursor) (f : File) → AreNames family → IsRecursor r
    → Writes f (rec_parts family r f) r.recursor.rules
    (a_name r.name ∷ a_tree r.type ∷ some_names family ∷ some_names r.levels ∷ [])
rec_writes family r f names recursor =
    let P : List RecRule → Type 0 = λ rs. Writes f (rec_parts family r f) rs
    (a_name r.name ∷ a_tree r.type ∷ some_names family ∷ some_names r.levels ∷ []) in
    subst P (append-nil r.recursor.rules)
    (writes_then (name_writes r.name f recursor.name)
    (writes_then (tree_writes r.type (write_name r.name f) recursor.type)
    (writes_then (names_writes family (write_tree r.type (write_name r.name f)) names)
    (writes_then (rules_write r.recursor.rules
    (write_names family (write_tree r.type (write_name r.name f))) recursor.rules)
    (names_writes r.levels (write_rules r.recursor.rules (write_names family
    (write_tree r.type (write_name r.name f)))) recursor.levels)))))

pub rec_states : (family : List Name) (r : BlockRecursor) (f : File) → AreNames family
    → IsSmall (length family) → IsRecursor r
    → States f (write_rec family r f) r.recursor.rules (rec_member family r ∷ []) []
rec_states family r f names small recursor =
    let first = f.written.rules in
    let g : File = rec_parts family r f in
    line_states (rec_line family first r) (rec_item family first r) (rec_member family r)
    (rec_writes family r f names recursor)
    (λ few. rec_is_line family first r g.written (few_of g.written few) small (omega arith)
    recursor)
    (λ rules c d l begun read k.
    let before = begun.rules_many in
    let all = read.rules_many in
    let long = length-append rules r.recursor.rules in
    let since : g.written.rules - first ≡ length r.recursor.rules = omega arith in
    rec_taken d.state g.written l first family r k
    (ap (λ n. all_known d.state.rules (range_with_len first n)) since
    ∙ rules_known d.state.rules rules r.recursor.rules first read.rules_are before))

abbrev pub all_rules : List BlockRecursor → List RecRule
all_rules [] = []
all_rules (r ∷ rs) = r.recursor.rules ++ all_rules rs

pub recs_state : (family : List Name) (rs : List BlockRecursor) (f : File) → AreNames family
    → IsSmall (length family) → All IsRecursor rs
    → States f (write_recs family rs f) (all_rules rs) (rec_members family rs) []
recs_state family [] f names small recursors = states_none f
recs_state family (r ∷ rs) f names small recursors =
    states_then (rec_states family r f names small (All-head IsRecursor r rs recursors))
    (recs_state family rs (write_rec family r f) names small (All-tail IsRecursor r rs recursors))
