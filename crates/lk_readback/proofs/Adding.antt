-- A line that defines a name, a level or a tree: a reader that knows the parts takes it, and is
-- behind the longer text.
use Rattle.std.proofs.Common.{◌≡◌, ◌≢◌, ℕ, zero, suc, ◌==◌, ◌+◌, ◌-◌, ◌<◌, ◌≤◌, ◌^◌, true}
use Rattle.std.proofs.Common.{false, List, [], ◌∷◌, ◌++◌, length, Option, Some, None, Ok, Err, refl}
use Rattle.std.proofs.Common.{ap, sym, ◌∙◌, append_assoc, arith}
use Rattle.std.specs.Prelude.{slice_get, is_some, if◌then◌else◌, nat_lt, reverse}
use Rattle.std.specs.Prelude.{decimal}
use Rattle.std.proofs.lemmas.Bool.Decides.{nat_tests}
use Rattle.std.proofs.lemmas.Option.{slice_get_past}
use Rattle.std.proofs.lemmas.List.{length-append, reverse-append}
use Rattle.lk_tree.specs.Tree.{Name, name_discrete, Part, text, number, Level, zero_level, Tree}
use Rattle.lk_rulebook.specs.Place.{RecRule}
use Rattle.lk_lines.specs.declared.words.Word.TheVariants.{IndexTaken, TooManyItems}
use Rattle.lk_lines.specs.Reading.{◌>>=◌}
use Rattle.lk_lines.specs.Items.{Item}
use Rattle.lk_units.specs.State.{State, take_item, entry_added, put, known_of, counted, with_name}
use Rattle.lk_units.specs.State.{with_level, with_tree}
use Rattle.lk_book.specs.Course.{Course}
use Rattle.lk_trim.specs.Written.{Written, File}
use Rattle.lk_trim.specs.Names.{has_name, name_number, name_fields, add_name}
use Rattle.lk_trim.specs.Levels.{level_fields, add_level}
use Rattle.lk_trim.specs.Trees.{tree_fields, add_tree}
use Rattle.lk_readback.specs.Statable.{IsSmall, IsPart, IsTree}
use Rattle.lk_readback.specs.Within.{defined_count}
use Rattle.lk_readback.specs.Items.{name_item, level_item, tree_item}
use Rattle.lk_readback.specs.Stated.{IsRead}
use Rattle.lk_readback.proofs.Growing.{Grows, Fits, IsReadOn}
use Rattle.lk_readback.proofs.Fronts.{front_refl, front_append, get_append, place_get, some_length}
use Rattle.lk_readback.proofs.OneLine.{IsBehind, next, line_read}
use Rattle.lk_readback.proofs.Lines.{IsLine, AreFew, name_is_line, level_is_line, tree_is_line}

get_push : {X : Type 0} (xs : List X) (x : X) (n : ℕ)
    → (if n == length xs then Some x else slice_get xs n) ≡ slice_get (xs ++ x ∷ []) n
get_push [] x zero = refl
get_push [] x (suc n) =
    let other : (suc n == 0) ≡ false = grind (arith, nat_tests) in
    ap (λ b. if b then Some x else None) other
get_push (y ∷ xs) x zero =
    let other : (0 == suc (length xs)) ≡ false = grind (arith, nat_tests) in
    ap (λ b. if b then Some x else Some y) other
get_push (y ∷ xs) x (suc n) =
    let same : (suc n == suc (length xs)) ≡ (n == length xs) = grind (arith, nat_tests) in
    ap (λ b. if b then Some x else slice_get xs n) same ∙ get_push xs x n

-- numbers that stand for the things of a list
module _ {X : Type 0} (mean : ℕ → Option X) (xs : List X)
    (is : (n : ℕ) → mean n ≡ slice_get xs n) where
  -- the number behind all others is free
  pub not_taken : is_some (mean (length xs)) ≡ false
  not_taken =
      ap is_some (is (length xs) ∙ slice_get_past xs (length xs) (omega arith))

  -- and stands for the one more that is put there
  pub put_stands : (x : X) (n : ℕ) → put mean (length xs) x n ≡ slice_get (xs ++ x ∷ []) n
  put_stands x n = ap (λ o. if n == length xs then Some x else o) (is n) ∙ get_push xs x n

counted_is : (s : State) → s.count < 2 ^ 32 - 1
    → counted s ≡ Ok (record s { count = s.count + 1 })
counted_is s few =
    let less : nat_lt s.count (2 ^ 32 - 1) ≡ true = grind (arith, nat_tests) in
    ap (λ b. if b then Ok (record s { count = s.count + 1 }) else Err TooManyItems) less

-- what is counted once it is said, where the number is free
module _ (s : State) (own : ℕ) (few : s.count < 2 ^ 32 - 1) where
  pub name_counts : (x : Name) → is_some (s.names own) ≡ false
      → (with_name s own (Ok x) >>= λ u. counted u)
      ≡ Ok (record s { names = put s.names own x; count = s.count + 1 })
  name_counts x free =
      ap (λ b. ((if b then Err IndexTaken else Ok x)
      >>= λ y. Ok (record s { names = put s.names own y })) >>= λ u. counted u) free
      ∙ counted_is (record s { names = put s.names own x }) few

  pub level_counts : (x : Level) → is_some (s.levels own) ≡ false
      → (with_level s own (Ok x) >>= λ u. counted u)
      ≡ Ok (record s { levels = put s.levels own x; count = s.count + 1 })
  level_counts x free =
      ap (λ b. ((if b then Err IndexTaken else Ok x)
      >>= λ y. Ok (record s { levels = put s.levels own y })) >>= λ u. counted u) free
      ∙ counted_is (record s { levels = put s.levels own x }) few

  pub tree_counts : (x : Tree) → is_some (s.trees own) ≡ false
      → (with_tree s own (Ok x) >>= λ u. counted u)
      ≡ Ok (record s { trees = put s.trees own x; count = s.count + 1 })
  tree_counts x free =
      ap (λ b. ((if b then Err IndexTaken else Ok x)
      >>= λ y. Ok (record s { trees = put s.trees own y })) >>= λ u. counted u) free
      ∙ counted_is (record s { trees = put s.trees own x }) few

-- a file with one line more that defines something, whatever it is
module _ (f g : File) (rules : List RecRule) (c : Course) (read : IsRead f rules c)
    (fits : Fits (length c.state.lines) g)
    (more : defined_count g.written ≡ defined_count f.written + 1) where
  pub are_few : AreFew f.written
  are_few =
      let items = fits.items in
      record { names = omega arith; levels = omega arith; trees = omega arith; rules = omega arith }

  pub count_few : c.state.count < 2 ^ 32 - 1
  count_few = let items = fits.items in let count = read.count in omega arith

  pub count_more : c.state.count + 1 ≡ defined_count g.written + length c.state.lines
  count_more = let count = read.count in omega arith

  -- the text with its number in front
  pub own_line : (own : ℕ) (bytes : List ℕ) (item : Item) (s : State)
      → g.text ≡ f.text ++ (decimal own ++ (bytes ++ 10 ∷ [])) → IsLine (decimal own ++ bytes) item
      → take_item (c.number + 1) c.state item ≡ Ok s
      → IsBehind g.text (next c (length (decimal own ++ bytes)) s)
  own_line own bytes item s is line takes =
      line_read f g rules c (decimal own ++ bytes) item s (length c.state.lines) read line
      (is ∙ ap (λ l. f.text ++ l) (sym (append_assoc (decimal own) bytes (10 ∷ [])))) fits takes

-- a line of a name says that name, where what it begins with is known
name_ready : (p : Part) (ps : List Part) (w : Written) (s : State) (l : ℕ)
    → s.names (name_number w (reverse ps)) ≡ Some (reverse ps)
    → (own : ℕ) → take_item l s (name_item own w (p ∷ ps))
    ≡ (with_name s own (Ok (reverse (p ∷ ps))) >>= λ u. counted u)
unfolding take_item entry_added
name_ready (text bytes) ps w s l known own =
    ap (λ o. with_name s own (known_of o >>= λ x. Ok (x ++ text bytes ∷ [])) >>= λ u. counted u)
    known
    ∙ ap (λ x. with_name s own (Ok x) >>= λ u. counted u)
    (sym (reverse-append (text bytes ∷ []) ps))
name_ready (number k) ps w s l known own =
    ap (λ o. with_name s own (known_of o >>= λ x. Ok (x ++ number k ∷ [])) >>= λ u. counted u)
    known
    ∙ ap (λ x. with_name s own (Ok x) >>= λ u. counted u)
    (sym (reverse-append (number k ∷ []) ps))

add_name_text : (ps : List Part) (f : File)
    → (add_name ps f).text
    ≡ f.text ++ (decimal (length f.written.names) ++ (name_fields f.written ps ++ 10 ∷ []))
unfolding add_name
add_name_text ps f = refl

add_level_text : (l : Level) (f : File)
    → (add_level l f).text
    ≡ f.text ++ (decimal (length f.written.levels) ++ (level_fields f.written l ++ 10 ∷ []))
unfolding add_level
add_level_text l f = refl

add_tree_text : (e : Tree) (f : File)
    → (add_tree e f).text
    ≡ f.text ++ (decimal (length f.written.trees) ++ (tree_fields f.written e ++ 10 ∷ []))
unfolding add_tree
add_tree_text e f = refl

-- what a state is behind each kind of line
abbrev pub named : State → ℕ → Name → State
named s own x = record s { names = put s.names own x; count = s.count + 1 }

abbrev pub levelled : State → ℕ → Level → State
levelled s own x = record s { levels = put s.levels own x; count = s.count + 1 }

abbrev pub treed : State → ℕ → Tree → State
treed s own x = record s { trees = put s.trees own x; count = s.count + 1 }

module _ (p : Part) (ps : List Part) (f : File) where
  pub name_more : 1 ≤ length f.written.names
      → defined_count (add_name (p ∷ ps) f).written ≡ defined_count f.written + 1
  unfolding add_name
  name_more some =
      let long = length-append f.written.names (reverse (p ∷ ps) ∷ []) in
      omega arith

  pub add_name_grows : Grows f (add_name (p ∷ ps) f)
  unfolding add_name
  add_name_grows = record {
    text = front_append f.text _;
    names = front_append f.written.names (reverse (p ∷ ps) ∷ []);
    levels = front_refl f.written.levels;
    trees = front_refl f.written.trees;
    rules = omega arith;
  }

  name_read : (rules : List RecRule) (c : Course) (n : ℕ) → IsRead f rules c
      → c.state.count + 1 ≡ defined_count (add_name (p ∷ ps) f).written + length c.state.lines
      → IsBehind (add_name (p ∷ ps) f).text
      (next c n (named c.state (length f.written.names) (reverse (p ∷ ps))))
      → IsRead (add_name (p ∷ ps) f) rules
      (next c n (named c.state (length f.written.names) (reverse (p ∷ ps))))
  unfolding add_name
  name_read rules c n read count behind = record {
    leads = behind.leads;
    dialect = behind.dialect;
    begun = behind.begun;
    before = behind.before;
    anonymous = get_append f.written.names (reverse (p ∷ ps) ∷ []) 0 [] read.anonymous;
    zero = read.zero;
    names = put_stands c.state.names f.written.names read.names (reverse (p ∷ ps));
    levels = read.levels;
    trees = read.trees;
    rules_are = read.rules_are;
    rules_many = read.rules_many;
    count = count;
  }

  -- a reader takes the line of a name that begins with what has its line
  pub name_on : (rules : List RecRule) (c : Course) → IsPart p → IsRead f rules c
      → has_name f.written (reverse ps) ≡ true
      → Fits (length c.state.lines) (add_name (p ∷ ps) f)
      → IsReadOn f (add_name (p ∷ ps) f) rules c
  name_on rules c part read has fits =
      let own : ℕ = length f.written.names in
      let g : File = add_name (p ∷ ps) f in
      let some = some_length f.written.names [] read.anonymous in
      let more = name_more some in
      let few = count_few f g rules c read fits more in
      let many = count_more f g rules c read fits more in
      let items = fits.items in
      let small : IsSmall own = omega arith in
      let line =
      name_is_line own f.written p ps small (are_few f g rules c read fits more) part in
      let known =
      read.names (name_number f.written (reverse ps))
      ∙ place_get name_discrete f.written.names (reverse ps) has in
      let takes =
      name_ready p ps f.written c.state (c.number + 1) known own
      ∙ name_counts c.state own few (reverse (p ∷ ps))
      (not_taken c.state.names f.written.names read.names) in
      let behind =
      own_line f g rules c read fits more own (name_fields f.written (p ∷ ps))
      (name_item own f.written (p ∷ ps)) (named c.state own (reverse (p ∷ ps)))
      (add_name_text (p ∷ ps) f) line takes in
      record {
        after = next c (length (decimal own ++ name_fields f.written (p ∷ ps)))
            (named c.state own (reverse (p ∷ ps)));
        read = name_read rules c _ read many behind;
        same_lines = refl;
        same_budgets = refl;
      }

module _ (v : Level) (f : File) where
  pub level_more : 1 ≤ length f.written.levels
      → defined_count (add_level v f).written ≡ defined_count f.written + 1
  unfolding add_level
  level_more some =
      let long = length-append f.written.levels (v ∷ []) in
      omega arith

  pub add_level_grows : Grows f (add_level v f)
  unfolding add_level
  add_level_grows = record {
    text = front_append f.text _;
    names = front_refl f.written.names;
    levels = front_append f.written.levels (v ∷ []);
    trees = front_refl f.written.trees;
    rules = omega arith;
  }

  level_read : (rules : List RecRule) (c : Course) (n : ℕ) → IsRead f rules c
      → c.state.count + 1 ≡ defined_count (add_level v f).written + length c.state.lines
      → IsBehind (add_level v f).text (next c n (levelled c.state (length f.written.levels) v))
      → IsRead (add_level v f) rules (next c n (levelled c.state (length f.written.levels) v))
  unfolding add_level
  level_read rules c n read count behind = record {
    leads = behind.leads;
    dialect = behind.dialect;
    begun = behind.begun;
    before = behind.before;
    anonymous = read.anonymous;
    zero = get_append f.written.levels (v ∷ []) 0 zero_level read.zero;
    names = read.names;
    levels = put_stands c.state.levels f.written.levels read.levels v;
    trees = read.trees;
    rules_are = read.rules_are;
    rules_many = read.rules_many;
    count = count;
  }

  -- a reader that knows the parts of a level takes its line
  pub level_on : (rules : List RecRule) (c : Course) → v ≢ zero_level → IsRead f rules c
      → ((l own : ℕ) → take_item l c.state (level_item own f.written v)
      ≡ (with_level c.state own (Ok v) >>= λ u. counted u))
      → Fits (length c.state.lines) (add_level v f)
      → IsReadOn f (add_level v f) rules c
  level_on rules c is read ready fits =
      let own : ℕ = length f.written.levels in
      let g : File = add_level v f in
      let some = some_length f.written.levels zero_level read.zero in
      let more = level_more some in
      let few = count_few f g rules c read fits more in
      let many = count_more f g rules c read fits more in
      let items = fits.items in
      let small : IsSmall own = omega arith in
      let line = level_is_line own f.written v small (are_few f g rules c read fits more) is in
      let takes =
      ready (c.number + 1) own
      ∙ level_counts c.state own few v
      (not_taken c.state.levels f.written.levels read.levels) in
      let behind =
      own_line f g rules c read fits more own (level_fields f.written v)
      (level_item own f.written v) (levelled c.state own v)
      (add_level_text v f) line takes in
      record {
        after = next c (length (decimal own ++ level_fields f.written v))
            (levelled c.state own v);
        read = level_read rules c _ read many behind;
        same_lines = refl;
        same_budgets = refl;
      }

module _ (e : Tree) (f : File) where
  pub tree_more : defined_count (add_tree e f).written ≡ defined_count f.written + 1
  unfolding add_tree
  tree_more =
      let long = length-append f.written.trees (e ∷ []) in
      omega arith

  pub add_tree_grows : Grows f (add_tree e f)
  unfolding add_tree
  add_tree_grows = record {
    text = front_append f.text _;
    names = front_refl f.written.names;
    levels = front_refl f.written.levels;
    trees = front_append f.written.trees (e ∷ []);
    rules = omega arith;
  }

  tree_read : (rules : List RecRule) (c : Course) (n : ℕ) → IsRead f rules c
      → c.state.count + 1 ≡ defined_count (add_tree e f).written + length c.state.lines
      → IsBehind (add_tree e f).text (next c n (treed c.state (length f.written.trees) e))
      → IsRead (add_tree e f) rules (next c n (treed c.state (length f.written.trees) e))
  unfolding add_tree
  tree_read rules c n read count behind = record {
    leads = behind.leads;
    dialect = behind.dialect;
    begun = behind.begun;
    before = behind.before;
    anonymous = read.anonymous;
    zero = read.zero;
    names = read.names;
    levels = read.levels;
    trees = put_stands c.state.trees f.written.trees read.trees e;
    rules_are = read.rules_are;
    rules_many = read.rules_many;
    count = count;
  }

  -- a reader that knows the parts of a tree takes its line
  pub tree_on : (rules : List RecRule) (c : Course) → IsTree e → IsRead f rules c
      → ((l own : ℕ) → take_item l c.state (tree_item own f.written e)
      ≡ (with_tree c.state own (Ok e) >>= λ u. counted u))
      → Fits (length c.state.lines) (add_tree e f)
      → IsReadOn f (add_tree e f) rules c
  tree_on rules c is read ready fits =
      let own : ℕ = length f.written.trees in
      let g : File = add_tree e f in
      let more = tree_more in
      let few = count_few f g rules c read fits more in
      let many = count_more f g rules c read fits more in
      let items = fits.items in
      let small : IsSmall own = omega arith in
      let line = tree_is_line own f.written e small (are_few f g rules c read fits more) is in
      let takes =
      ready (c.number + 1) own
      ∙ tree_counts c.state own few e
      (not_taken c.state.trees f.written.trees read.trees) in
      let behind =
      own_line f g rules c read fits more own (tree_fields f.written e)
      (tree_item own f.written e) (treed c.state own e)
      (add_tree_text e f) line takes in
      record {
        after = next c (length (decimal own ++ tree_fields f.written e))
            (treed c.state own e);
        read = tree_read rules c _ read many behind;
        same_lines = refl;
        same_budgets = refl;
      }
