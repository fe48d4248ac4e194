-- What is written before a line: names, trees and rules, which then have their lines.
use Rattle.std.proofs.Common.{◌≡◌, ℕ, List, [], ◌∷◌, ◌++◌, length, true, Some, Ok}
use Rattle.std.proofs.Common.{refl, ap, sym, subst, ◌∙◌, append_assoc}
use Rattle.std.specs.Prelude.{All, slice_get}
use Rattle.std.specs.declared.option.Option.{Option}
use Rattle.std.proofs.lemmas.List.{append-nil}
use Rattle.std.proofs.lemmas.List.Elements.{All-head, All-tail, All-weaker}
use Rattle.lk_tree.specs.Tree.{Name, Tree}
use Rattle.lk_rulebook.specs.Place.{RecRule}
use Rattle.lk_rulebook.specs.Units.{Body, as_axiom, as_def, as_thm, as_opaque, as_quot}
use Rattle.lk_lines.specs.Reading.{◌>>=◌}
use Rattle.lk_units.specs.State.{State, known_of, known, all_known}
use Rattle.lk_book.specs.Course.{Course}
use Rattle.lk_trim.specs.Written.{Written, File}
use Rattle.lk_trim.specs.Names.{has_name, name_number, name_numbers, write_name, write_names}
use Rattle.lk_trim.specs.Trees.{has_tree, tree_number, write_tree}
use Rattle.lk_trim.specs.Units.{write_body}
use Rattle.lk_readback.specs.Statable.{IsName, AreNames, IsTree, IsBody}
use Rattle.lk_readback.specs.Stated.{IsRead}
use Rattle.lk_readback.proofs.Growing.{Grows, Fits, IsReadOn, Goes}
use Rattle.lk_readback.proofs.Fronts.{get_front, grows_refl, grows_trans, fits_front}
use Rattle.lk_readback.proofs.Parts.{grows_name, grows_tree, name_known, tree_known}
use Rattle.lk_readback.proofs.Parts.{write_name_goes, write_name_has, write_names_goes}
use Rattle.lk_readback.proofs.Parts.{write_names_has, write_tree_goes, write_tree_has}

-- what a line refers to by its number
pub data Wanted : Type 0 where
  a_name : Name → Wanted
  some_names : List Name → Wanted
  a_tree : Tree → Wanted
  a_body : Body → Wanted

abbrev pub HasBody : Written → Body → Type 0
HasBody w as_axiom = Unit {0}
HasBody w (as_def h v) = has_tree w v ≡ true
HasBody w (as_thm v) = has_tree w v ≡ true
HasBody w (as_opaque v) = has_tree w v ≡ true
HasBody w as_quot = Unit {0}

abbrev pub HasOne : Written → Wanted → Type 0
HasOne w (a_name x) = has_name w x ≡ true
HasOne w (some_names xs) = All (λ x. has_name w x ≡ true) xs
HasOne w (a_tree e) = has_tree w e ≡ true
HasOne w (a_body b) = HasBody w b

-- all of these have their lines
abbrev pub Has : Written → List Wanted → Type 0
Has w [] = Unit {0}
Has w (x ∷ xs) = HasOne w x × Has w xs

has_body_on : (f g : File) (b : Body) → Grows f g → HasBody f.written b → HasBody g.written b
has_body_on f g as_axiom grows h = tt
has_body_on f g (as_def i v) grows h = grows_tree f g v grows h
has_body_on f g (as_thm v) grows h = grows_tree f g v grows h
has_body_on f g (as_opaque v) grows h = grows_tree f g v grows h
has_body_on f g as_quot grows h = tt

has_one_on : (f g : File) (x : Wanted) → Grows f g → HasOne f.written x → HasOne g.written x
has_one_on f g (a_name x) grows h = grows_name f g x grows h
has_one_on f g (some_names xs) grows h =
    All-weaker (λ x. has_name f.written x ≡ true) (λ x. has_name g.written x ≡ true)
    (λ x k. grows_name f g x grows k) xs h
has_one_on f g (a_tree e) grows h = grows_tree f g e grows h
has_one_on f g (a_body b) grows h = has_body_on f g b grows h

has_on : (f g : File) (xs : List Wanted) → Grows f g → Has f.written xs → Has g.written xs
has_on f g [] grows h = tt
has_on f g (x ∷ xs) grows h = (has_one_on f g x grows h.0, has_on f g xs grows h.1)

has_append : (w : Written) (xs ys : List Wanted) → Has w xs → Has w ys → Has w (xs ++ ys)
has_append w [] ys h k = k
has_append w (x ∷ xs) ys h k = (h.0, has_append w xs ys h.1 k)

-- Their numbers stand for them.
abbrev pub KnowsBody : State → Written → Body → Type 0
KnowsBody s w as_axiom = Unit {0}
KnowsBody s w (as_def h v) = known s.trees (tree_number w v) ≡ Ok v
KnowsBody s w (as_thm v) = known s.trees (tree_number w v) ≡ Ok v
KnowsBody s w (as_opaque v) = known s.trees (tree_number w v) ≡ Ok v
KnowsBody s w as_quot = Unit {0}

abbrev pub KnowsOne : State → Written → Wanted → Type 0
KnowsOne s w (a_name x) = known s.names (name_number w x) ≡ Ok x
KnowsOne s w (some_names xs) = all_known s.names (name_numbers w xs) ≡ Ok xs
KnowsOne s w (a_tree e) = known s.trees (tree_number w e) ≡ Ok e
KnowsOne s w (a_body b) = KnowsBody s w b

abbrev pub Knows : State → Written → List Wanted → Type 0
Knows s w [] = Unit {0}
Knows s w (x ∷ xs) = KnowsOne s w x × Knows s w xs

pub all_known-cons : {X : Type 0} (mean : ℕ → Option X) (n : ℕ) (ns : List ℕ) (x : X) (xs : List X)
    → mean n ≡ Some x → all_known mean ns ≡ Ok xs → all_known mean (n ∷ ns) ≡ Ok (x ∷ xs)
all_known-cons mean n ns x xs e f =
    ap (λ o. known_of o >>= λ y. (all_known mean ns >>= λ ys. Ok (y ∷ ys))) e
    ∙ ap (λ r. r >>= λ ys. Ok (x ∷ ys)) f

module _ (f : File) (rules : List RecRule) (c : Course) (read : IsRead f rules c) where
  names_known : (xs : List Name) → All (λ x. has_name f.written x ≡ true) xs
      → all_known c.state.names (name_numbers f.written xs) ≡ Ok xs
  names_known [] h = refl
  names_known (x ∷ xs) h =
      all_known-cons c.state.names (name_number f.written x) (name_numbers f.written xs) x xs
      (name_known f rules c x read (All-head (λ y. has_name f.written y ≡ true) x xs h))
      (names_known xs (All-tail (λ y. has_name f.written y ≡ true) x xs h))

  tree_knows : (e : Tree) → has_tree f.written e ≡ true
      → known c.state.trees (tree_number f.written e) ≡ Ok e
  tree_knows e h = ap known_of (tree_known f rules c e read h)

  knows_body : (b : Body) → HasBody f.written b → KnowsBody c.state f.written b
  knows_body as_axiom h = tt
  knows_body (as_def i v) h = tree_knows v h
  knows_body (as_thm v) h = tree_knows v h
  knows_body (as_opaque v) h = tree_knows v h
  knows_body as_quot h = tt

  knows_one : (x : Wanted) → HasOne f.written x → KnowsOne c.state f.written x
  knows_one (a_name x) h = ap known_of (name_known f rules c x read h)
  knows_one (some_names xs) h = names_known xs h
  knows_one (a_tree e) h = tree_knows e h
  knows_one (a_body b) h = knows_body b h

  pub knows : (xs : List Wanted) → Has f.written xs → Knows c.state f.written xs
  knows [] h = tt
  knows (x ∷ xs) h = (knows_one x h.0, knows xs h.1)

-- Between two texts names, trees and these rules are written, and then all of these have their
-- lines.
pub record Writes (f g : File) (more : List RecRule) (xs : List Wanted) : Type 0 where
  pub grows : Grows f g
  pub on : (rules : List RecRule) (c : Course) → IsRead f rules c
      → Fits (length c.state.lines) g → IsReadOn f g (rules ++ more) c
  pub has : slice_get f.written.names 0 ≡ Some [] → Has g.written xs

pub writes_none : (f : File) → Writes f f [] []
writes_none f = record {
  grows = grows_refl f;
  on = λ rules c read fits.
      let P : List RecRule → Type 0 = λ rs. IsReadOn f f rs c in
      subst P (sym (append-nil rules))
      (record { after = c; read = read; same_lines = refl; same_budgets = refl });
  has = λ first. tt;
}

pub goes_writes : (f g : File) (xs : List Wanted) → Goes f g
    → (slice_get f.written.names 0 ≡ Some [] → Has g.written xs) → Writes f g [] xs
goes_writes f g xs goes has = record {
  grows = goes.grows;
  on = λ rules c read fits.
      let P : List RecRule → Type 0 = λ rs. IsReadOn f g rs c in
      subst P (sym (append-nil rules)) (goes.on rules c read fits);
  has = has;
}

first_on : (f g : File) → Grows f g → slice_get f.written.names 0 ≡ Some []
    → slice_get g.written.names 0 ≡ Some []
first_on f g grows h = get_front f.written.names g.written.names 0 [] grows.names h

pub writes_then : {f g h : File} {rs ss : List RecRule} {xs ys : List Wanted} → Writes f g rs xs
    → Writes g h ss ys → Writes f h (rs ++ ss) (xs ++ ys)
writes_then {f} {g} {h} {rs} {ss} {xs} {ys} a b = record {
  grows = grows_trans f g h a.grows b.grows;
  on = λ rules c read fits.
      let one = a.on rules c read (fits_front (length c.state.lines) g h b.grows fits) in
      let InLines : ℕ → Type 0 = λ n. Fits n h in
      let two =
      b.on (rules ++ rs) one.after one.read
      (subst InLines (sym (ap length one.same_lines)) fits) in
      let Behind : List RecRule → Type 0 = λ x. IsRead h x two.after in
      record {
        after = two.after;
        read = subst Behind (append_assoc rules rs ss) two.read;
        same_lines = two.same_lines ∙ one.same_lines;
        same_budgets = two.same_budgets ∙ one.same_budgets;
      };
  has = λ first.
      has_append h.written xs ys (has_on g h xs b.grows (a.has first))
      (b.has (first_on f g a.grows first));
}

pub name_writes : (x : Name) (f : File) → IsName x → Writes f (write_name x f) [] (a_name x ∷ [])
name_writes x f name =
    goes_writes f (write_name x f) (a_name x ∷ []) (write_name_goes x f name)
    (λ first. (write_name_has x f first, tt))

pub names_writes : (xs : List Name) (f : File) → AreNames xs
    → Writes f (write_names xs f) [] (some_names xs ∷ [])
names_writes xs f names =
    goes_writes f (write_names xs f) (some_names xs ∷ []) (write_names_goes xs f names)
    (λ first. (write_names_has xs f first, tt))

pub tree_writes : (e : Tree) (f : File) → IsTree e → Writes f (write_tree e f) [] (a_tree e ∷ [])
tree_writes e f tree =
    goes_writes f (write_tree e f) (a_tree e ∷ []) (write_tree_goes e f tree)
    (λ first. (write_tree_has e f, tt))

none_writes : (f : File) (b : Body) → HasBody f.written b → Writes f f [] (a_body b ∷ [])
none_writes f b h =
    let none = writes_none f in
    record { grows = none.grows; on = none.on; has = λ first. (h, tt) }

value_writes : (v : Tree) (f : File) (b : Body) → IsTree v
    → HasBody (write_tree v f).written b → Writes f (write_tree v f) [] (a_body b ∷ [])
value_writes v f b tree h =
    goes_writes f (write_tree v f) (a_body b ∷ []) (write_tree_goes v f tree) (λ first. (h, tt))

pub body_writes : (b : Body) (f : File) → IsBody b → Writes f (write_body b f) [] (a_body b ∷ [])
body_writes as_axiom f body = none_writes f as_axiom tt
body_writes (as_def h v) f body = value_writes v f (as_def h v) body.1 (write_tree_has v f)
body_writes (as_thm v) f body = value_writes v f (as_thm v) body (write_tree_has v f)
body_writes (as_opaque v) f body = value_writes v f (as_opaque v) body (write_tree_has v f)
body_writes as_quot f body = none_writes f as_quot tt
