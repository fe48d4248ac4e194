-- Texts between which lines of members and of budgets are written, and one such line more.
use Rattle.std.proofs.Common.{◌≡◌, ℕ, ◌<◌, ◌≤◌, ◌^◌, ◌+◌, ◌-◌, List, [], ◌∷◌, ◌++◌, length, true}
use Rattle.std.proofs.Common.{None, Ok}
use Rattle.std.proofs.Common.{refl, ap, sym, subst, ◌∙◌, append_assoc, arith, nat_lt}
use Rattle.std.proofs.lemmas.Bool.Decides.{nat_tests}
use Rattle.std.proofs.lemmas.List.{append-nil, length-append, length-map, length_push, map_push}
use Rattle.lk_tree.specs.Mentions.{same_name}
use Rattle.lk_rulebook.specs.Place.{RecRule}
use Rattle.lk_env.specs.Budgets.{StatedBudget}
use Rattle.lk_members.specs.Faults.{fault_of}
use Rattle.lk_members.specs.Plain.{PlainMember, PlainLine}
use Rattle.lk_lines.specs.Items.{Item}
use Rattle.lk_lines.specs.Reading.{◌>>=◌}
use Rattle.lk_units.specs.State.{State, take_item, counted, unless_fault, with_line, declared}
use Rattle.lk_book.specs.Course.{Course}
use Rattle.lk_trim.specs.Written.{Written, File, line}
use Rattle.lk_readback.specs.Within.{defined_count}
use Rattle.lk_readback.specs.Stated.{IsRead, said_by, AreFaultless}
use Rattle.lk_readback.proofs.Growing.{Grows, Fits}
use Rattle.lk_readback.proofs.Fronts.{front_refl, grows_refl, grows_trans, fits_front}
use Rattle.lk_readback.proofs.OneLine.{next, line_read}
use Rattle.lk_readback.proofs.Lines.{IsLine, AreFew}
use Rattle.lk_readback.proofs.Wanted.{Wanted, Knows, knows, Writes}

-- a reader that is behind g, where these members and these budgets came on
pub record IsReadOver (g : File) (rules : List RecRule) (ms : List PlainMember)
    (bs : List StatedBudget) (c : Course) : Type 0 where
  pub after : Course
  pub read : IsRead g rules after
  pub lines : said_by after.state.lines ≡ said_by c.state.lines ++ ms
  pub budgets : after.state.budgets ≡ c.state.budgets ++ bs

-- Between two texts these rules, members and budgets are written.
pub record States (f g : File) (more : List RecRule) (ms : List PlainMember)
    (bs : List StatedBudget) : Type 0 where
  pub grows : Grows f g
  pub on : (rules : List RecRule) (c : Course) → IsRead f rules c
      → Fits (length c.state.lines + length ms) g → AreFaultless (said_by c.state.lines ++ ms)
      → IsReadOver g (rules ++ more) ms bs c

-- a text with fewer lines of members
pub fits_fewer : (m n : ℕ) (f g : File) → Grows f g → m ≤ n → Fits n g → Fits m f
fits_fewer m n f g grows less fits =
    let front = fits_front n f g grows fits in
    let items = front.items in
    record { lines = front.lines; input = front.input; items = omega arith }

faultless_front : (ms ns : List PlainMember) → AreFaultless (ms ++ ns) → AreFaultless ms
faultless_front ms ns h before m after ls is said =
    h before m (after ++ ns) ls (ap (λ l. l ++ ns) is ∙ append_assoc before (m ∷ after) ns) said

pub states_none : (f : File) → States f f [] [] []
states_none f = record {
  grows = grows_refl f;
  on = λ rules c read fits faultless.
      let Behind : List RecRule → Type 0 = λ rs. IsRead f rs c in
      record {
        after = c;
        read = subst Behind (sym (append-nil rules)) read;
        lines = sym (append-nil (said_by c.state.lines));
        budgets = sym (append-nil c.state.budgets);
      };
}

long_on : (ls ks : List PlainLine) (ms : List PlainMember) → said_by ls ≡ said_by ks ++ ms
    → length ls ≡ length ks + length ms
long_on ls ks ms is =
    let one = length-map ls (λ (l : PlainLine). l.said) in
    let two = length-map ks (λ (l : PlainLine). l.said) in
    let three = length-append (said_by ks) ms in
    let four = ap length is in
    omega arith

pub states_then : {f g h : File} {rs ss : List RecRule} {ms ns : List PlainMember}
    {bs cs : List StatedBudget} → States f g rs ms bs → States g h ss ns cs
    → States f h (rs ++ ss) (ms ++ ns) (bs ++ cs)
states_then {f} {g} {h} {rs} {ss} {ms} {ns} {bs} {cs} a b = record {
  grows = grows_trans f g h a.grows b.grows;
  on = λ rules c read fits faultless.
      let many = length-append ms ns in
      let whole : AreFaultless ((said_by c.state.lines ++ ms) ++ ns) =
      subst AreFaultless (sym (append_assoc (said_by c.state.lines) ms ns)) faultless in
      let one =
      a.on rules c read
      (fits_fewer (length c.state.lines + length ms)
      (length c.state.lines + length (ms ++ ns)) g h b.grows (omega arith) fits)
      (faultless_front (said_by c.state.lines ++ ms) ns whole) in
      let long = long_on one.after.state.lines c.state.lines ms one.lines in
      let Behind : List PlainMember → Type 0 = λ l. AreFaultless (l ++ ns) in
      let two =
      b.on (rules ++ rs) one.after one.read
      (fits_fewer (length one.after.state.lines + length ns)
      (length c.state.lines + length (ms ++ ns)) h h (grows_refl h) (omega arith) fits)
      (subst Behind (sym one.lines) whole) in
      let Ruled : List RecRule → Type 0 = λ x. IsRead h x two.after in
      record {
        after = two.after;
        read = subst Ruled (append_assoc rules rs ss) two.read;
        lines =
            two.lines ∙ ap (λ l. l ++ ns) one.lines
            ∙ append_assoc (said_by c.state.lines) ms ns;
        budgets =
            two.budgets ∙ ap (λ l. l ++ cs) one.budgets ∙ append_assoc c.state.budgets bs cs;
      };
}

-- the numbers of what a text has are few where the text keeps the limits
pub few_of : (w : Written) → defined_count w < 2 ^ 32 → AreFew w
few_of w h =
    record { names = omega arith; levels = omega arith; trees = omega arith; rules = omega arith }

pub grows_line : (says : Written → List ℕ) (f : File) → Grows f (line says f)
unfolding line
grows_line says f = record {
  text = record { more = says f.written ++ 10 ∷ []; is = refl };
  names = front_refl f.written.names;
  levels = front_refl f.written.levels;
  trees = front_refl f.written.trees;
  rules = omega arith;
}

-- the state where these lines and budgets came on, and so many items were counted
abbrev pub stated_in : State → List PlainLine → List StatedBudget → ℕ → State
stated_in s ls bs count = record s { lines = ls; budgets = bs; count = count }

-- a line that defines no number is read
pub plain_read : (g : File) (rules : List RecRule) (c : Course) (says : Written → List ℕ)
    (item : Item) (ls : List PlainLine) (bs : List StatedBudget) (count members : ℕ)
    → IsRead g rules c → IsLine (says g.written) item → Fits members (line says g)
    → take_item (c.number + 1) c.state item ≡ Ok (stated_in c.state ls bs count)
    → count ≡ defined_count g.written + length ls
    → IsRead (line says g) rules
    (next c (length (says g.written)) (stated_in c.state ls bs count))
unfolding line
plain_read g rules c says item ls bs count members read one fits takes many =
    let behind =
    line_read g (line says g) rules c (says g.written) item (stated_in c.state ls bs count)
    members read one refl fits takes in
    record {
      leads = behind.leads;
      dialect = behind.dialect;
      begun = behind.begun;
      before = behind.before;
      anonymous = read.anonymous;
      zero = read.zero;
      names = read.names;
      levels = read.levels;
      trees = read.trees;
      rules_are = read.rules_are;
      rules_many = read.rules_many;
      count = many;
    }

pub counted_is : (s : State) → s.count + 1 < 2 ^ 32
    → counted s ≡ Ok (record s { count = s.count + 1 })
counted_is s less =
    let few : nat_lt s.count (2 ^ 32 - 1) ≡ true = grind (arith, nat_tests) in
    rw few refl

-- a member without a fault stands behind those before it
declared_is : (l : ℕ) (s : State) (m : PlainMember) → s.count + 1 < 2 ^ 32
    → fault_of same_name s.lines m ≡ None
    → declared l s (Ok m)
    ≡ Ok (stated_in s (s.lines ++ record { number = l; said = m } ∷ []) s.budgets (s.count + 1))
declared_is l s m less none =
    let t : State = record s { count = s.count + 1 } in
    let u : State = record t { lines = t.lines ++ record { number = l; said = m } ∷ [] } in
    ap (λ r. r >>= λ v. with_line l v m) (counted_is s less) ∙ ap (λ o. unless_fault o u) none

-- one line more that declares a member, behind what it refers to
pub line_states : {f g : File} {more : List RecRule} {xs : List Wanted} (says : Written → List ℕ)
    (item : Written → Item) (m : PlainMember) → Writes f g more xs
    → (defined_count g.written < 2 ^ 32 → IsLine (says g.written) (item g.written))
    → ((rules : List RecRule) (c d : Course) (l : ℕ) → IsRead f rules c
    → IsRead g (rules ++ more) d → Knows d.state g.written xs
    → take_item l d.state (item g.written) ≡ declared l d.state (Ok m))
    → States f (line says g) more (m ∷ []) []
unfolding line
line_states {f} {g} {more} {xs} says item m writes is_line takes = record {
  grows = grows_trans f g (line says g) writes.grows (grows_line says g);
  on = λ rules c read fits faultless.
      let n = length c.state.lines in
      let items = fits.items in
      let inner =
      fits_fewer n (n + length (m ∷ [])) g (line says g) (grows_line says g) (omega arith) fits in
      let one = writes.on rules c read inner in
      let d = one.after in
      let l : PlainLine = record { number = d.number + 1; said = m } in
      let none : fault_of same_name d.state.lines m ≡ None =
      faultless (said_by c.state.lines) m [] d.state.lines refl (ap said_by one.same_lines) in
      let is =
      takes rules c d (d.number + 1) read one.read
      (knows g (rules ++ more) d one.read xs (writes.has read.anonymous)) in
      let count = one.read.count in
      let same = ap length one.same_lines in
      let less : d.state.count + 1 < 2 ^ 32 = omega arith in
      let long = length_push d.state.lines l in
      record {
        after =
            next d (length (says g.written))
            (stated_in d.state (d.state.lines ++ l ∷ []) d.state.budgets (d.state.count + 1));
        read =
            plain_read g (rules ++ more) d says (item g.written) (d.state.lines ++ l ∷ [])
            d.state.budgets (d.state.count + 1) (n + length (m ∷ [])) one.read
            (is_line (omega arith)) fits (is ∙ declared_is (d.number + 1) d.state m less none)
            (omega arith);
        lines =
            map_push (λ (k : PlainLine). k.said) d.state.lines l
            ∙ ap (λ ls. said_by ls ++ m ∷ []) one.same_lines;
        budgets = one.same_budgets ∙ sym (append-nil c.state.budgets);
      };
}
