-- What is made of things that an export can state can be stated.
use Rattle.std.proofs.Common.{ℕ, ◌≡◌, List, [], ◌∷◌, ◌++◌, length, Ok, Err, Some, None, refl, arith}
use Rattle.std.specs.Prelude.{Result, IfOk, IfSome, All}
use Rattle.std.specs.declared.option.Option.{Option}
use Rattle.std.proofs.lemmas.List.Elements.{All-nil, All-cons, All-push}
use Rattle.lk_tree.specs.Tree.{Name, Part, Level, Tree, const, let_in, proj}
use Rattle.lk_rulebook.specs.Place.{RecRule}
use Rattle.lk_rulebook.specs.Units.{Body}
use Rattle.lk_members.specs.Lines.{alone, a_type, a_ctor, a_recursor}
use Rattle.lk_lines.specs.declared.words.Word.{Word}
use Rattle.lk_lines.specs.Reading.{◌>>=◌}
use Rattle.lk_units.specs.State.{Counts, known_of, known, all_known}
use Rattle.lk_readback.specs.Statable.{IsSmall, IsPart, IsName, IsLevel, IsTree, IsBody, IsRule}
use Rattle.lk_readback.proofs.SmallMembers.{IsMember}

-- so many things, each of which has P
pub record AreKnown {X : Type 0} (P : X → Type 0) (ns : List ℕ) (xs : List X) : Type 0 where
  pub each : All P xs
  pub many : length xs ≡ length ns

pub if_known : {X : Type 0} (P : X → Type 0) (o : Option X) → IfSome o P → IfOk (known_of o) P
if_known P (Some x) h = h
if_known P None h = tt

one_more_known : {X : Type 0} (P : X → Type 0) (n : ℕ) (ns : List ℕ) (one : Result X Word)
    (more : Result (List X) Word) → IfOk one P → IfOk more (AreKnown P ns)
    → IfOk (one >>= λ x. (more >>= λ xs. Ok (x ∷ xs))) (AreKnown P (n ∷ ns))
one_more_known P n ns (Ok x) (Ok xs) h all =
    let many = all.many in
    record { each = All-cons P x xs h all.each; many = omega arith }
one_more_known P n ns (Ok x) (Err w) h all = tt
one_more_known P n ns (Err w) more h all = tt

pub if_all_known : {X : Type 0} (P : X → Type 0) (mean : ℕ → Option X) (ns : List ℕ)
    → ((n : ℕ) → IfSome (mean n) P) → IfOk (all_known mean ns) (AreKnown P ns)
if_all_known P mean [] h = record { each = All-nil P; many = refl }
if_all_known P mean (n ∷ ns) h =
    one_more_known P n ns (known mean n) (all_known mean ns) (if_known P (mean n) (h n))
    (if_all_known P mean ns h)

pub longer_made : (r : Result Name Word) (part : Part) → IfOk r IsName → IsPart part
    → IfOk (r >>= λ x. Ok (x ++ part ∷ [])) IsName
longer_made (Ok x) part h p = All-push IsPart x part h p
longer_made (Err w) part h p = tt

-- what is made of one thing, of two or of three
pub one_made : {X Y : Type 0} (P : X → Type 0) (Q : Y → Type 0) (f : X → Y)
    → ((x : X) → P x → Q (f x)) → (r : Result X Word) → IfOk r P → IfOk (r >>= λ x. Ok (f x)) Q
one_made P Q f g (Ok x) h = g x h
one_made P Q f g (Err w) h = tt

pub two_made : {X Y Z : Type 0} (P : X → Type 0) (Q : Y → Type 0) (R : Z → Type 0) (f : X → Y → Z)
    → ((x : X) (y : Y) → P x → Q y → R (f x y)) → (r : Result X Word) (q : Result Y Word)
    → IfOk r P → IfOk q Q → IfOk (r >>= λ x. (q >>= λ y. Ok (f x y))) R
two_made P Q R f g (Ok x) (Ok y) h i = g x y h i
two_made P Q R f g (Ok x) (Err w) h i = tt
two_made P Q R f g (Err w) q h i = tt

pub binder_made : (f : Tree → Tree → Tree)
    → ((a b : Tree) → IsTree a → IsTree b → IsTree (f a b)) → (rn : Result Name Word)
    (ra rb : Result Tree Word) → IfOk ra IsTree → IfOk rb IsTree
    → IfOk (rn >>= λ name. (ra >>= λ x. (rb >>= λ y. Ok (f x y)))) IsTree
binder_made f g (Ok name) ra rb h i = two_made IsTree IsTree IsTree f g ra rb h i
binder_made f g (Err w) ra rb h i = tt

pub let_made : (rn : Result Name Word) (ra rv rb : Result Tree Word) → IfOk ra IsTree
    → IfOk rv IsTree → IfOk rb IsTree
    → IfOk (rn >>= λ name. (ra >>= λ x. (rv >>= λ y. (rb >>= λ z. Ok (let_in x y z))))) IsTree
let_made (Ok name) (Ok x) (Ok y) (Ok z) h i j = (h, (i, j))
let_made (Ok name) (Ok x) (Ok y) (Err w) h i j = tt
let_made (Ok name) (Ok x) (Err w) rb h i j = tt
let_made (Ok name) (Err w) rv rb h i j = tt
let_made (Err w) ra rv rb h i j = tt

pub projection_made : (field : ℕ) (rn : Result Name Word) (re : Result Tree Word) → IsSmall field
    → IfOk rn IsName → IfOk re IsTree
    → IfOk (rn >>= λ name. (re >>= λ x. Ok (proj name field x))) IsTree
projection_made field (Ok name) (Ok x) small h i = (h, (small, i))
projection_made field (Ok name) (Err w) small h i = tt
projection_made field (Err w) re small h i = tt

pub constant_made : (ns : List ℕ) (rn : Result Name Word) (rl : Result (List Level) Word)
    → IfOk rn IsName → IfOk rl (AreKnown IsLevel ns)
    → IfOk (rn >>= λ name. (rl >>= λ levels. Ok (const name levels))) IsTree
constant_made ns (Ok name) (Ok levels) h i = (h, i.each)
constant_made ns (Ok name) (Err w) h i = tt
constant_made ns (Err w) rl h i = tt

pub rule_made : (fields : ℕ) (rn : Result Name Word) (rv : Result Tree Word) → IsSmall fields
    → IfOk rn IsName → IfOk rv IsTree
    → IfOk (rn >>= λ name. (rv >>= λ value.
    Ok (record { ctor = name; fields = fields; value = value }))) IsRule
rule_made fields (Ok name) (Ok value) small h i = record { ctor = h; fields = small; value = i }
rule_made fields (Ok name) (Err w) small h i = tt
rule_made fields (Err w) rv small h i = tt

pub declaration_made : (ps : List ℕ) (rn : Result Name Word) (ra : Result Tree Word)
    (rb : Result Body Word) (rl : Result (List Name) Word) → IfOk rn IsName → IfOk ra IsTree
    → IfOk rb IsBody → IfOk rl (AreKnown IsName ps)
    → IfOk (rn >>= λ name. (ra >>= λ type. (rb >>= λ body. (rl >>= λ levels.
    Ok (alone (record { name = name; levels = levels; type = type; body = body })))))) IsMember
declaration_made ps (Ok name) (Ok type) (Ok body) (Ok levels) h i j k =
    record { name = h; levels = k.each; type = i; body = j }
declaration_made ps (Ok name) (Ok type) (Ok body) (Err w) h i j k = tt
declaration_made ps (Ok name) (Ok type) (Err w) rl h i j k = tt
declaration_made ps (Ok name) (Err w) rb rl h i j k = tt
declaration_made ps (Err w) ra rb rl h i j k = tt

pub type_made : (parameters indices : ℕ) (ts cs ps : List ℕ) (rn : Result Name Word)
    (ra : Result Tree Word) (rt rc rl : Result (List Name) Word) → IsSmall parameters
    → IsSmall indices → IsSmall (length ts) → IsSmall (length cs) → IfOk rn IsName → IfOk ra IsTree
    → IfOk rt (AreKnown IsName ts) → IfOk rc (AreKnown IsName cs) → IfOk rl (AreKnown IsName ps)
    → IfOk (rn >>= λ name. (ra >>= λ type. (rt >>= λ types. (rc >>= λ ctors. (rl >>= λ levels.
    Ok (a_type name types ctors (record {
      name = name;
      levels = levels;
      type = type;
      parameters = parameters;
      indices = indices;
    }))))))) IsMember
type_made p i ts cs ps (Ok name) (Ok type) (Ok types) (Ok ctors) (Ok levels) sp si st sc n a t c l =
    let types_many = t.many in
    let ctors_many = c.many in (
      record {
        name_is = refl;
        name = n;
        levels = l.each;
        type = a;
        parameters = sp;
        indices = si;
      },
      (omega arith, omega arith),
    )
type_made p i ts cs ps (Ok name) (Ok type) (Ok types) (Ok ctors) (Err w) sp si st sc n a t c l = tt
type_made p i ts cs ps (Ok name) (Ok type) (Ok types) (Err w) rl sp si st sc n a t c l = tt
type_made p i ts cs ps (Ok name) (Ok type) (Err w) rc rl sp si st sc n a t c l = tt
type_made p i ts cs ps (Ok name) (Err w) rt rc rl sp si st sc n a t c l = tt
type_made p i ts cs ps (Err w) ra rt rc rl sp si st sc n a t c l = tt

pub ctor_made : (place parameters fields : ℕ) (ps : List ℕ) (rn : Result Name Word)
    (ra : Result Tree Word) (rp : Result Name Word) (rl : Result (List Name) Word) → IsSmall place
    → IsSmall parameters → IsSmall fields → IfOk rn IsName → IfOk ra IsTree
    → IfOk rl (AreKnown IsName ps)
    → IfOk (rn >>= λ name. (ra >>= λ type. (rp >>= λ parent. (rl >>= λ levels.
    Ok (a_ctor parent name (record {
      name = name;
      levels = levels;
      type = type;
      parent = parent;
      place = place;
      parameters = parameters;
      fields = fields;
    })))))) IsMember
ctor_made place p f ps (Ok name) (Ok type) (Ok parent) (Ok levels) si sp sf n a l =
    record {
      name_is = refl;
      parent_is = refl;
      name = n;
      levels = l.each;
      type = a;
      place = si;
      parameters = sp;
      fields = sf;
    }
ctor_made place p f ps (Ok name) (Ok type) (Ok parent) (Err w) si sp sf n a l = tt
ctor_made place p f ps (Ok name) (Ok type) (Err w) rl si sp sf n a l = tt
ctor_made place p f ps (Ok name) (Err w) rp rl si sp sf n a l = tt
ctor_made place p f ps (Err w) ra rp rl si sp sf n a l = tt

-- the counts are numbers of fields
pub record AreSmallCounts (c : Counts) : Type 0 where
  pub parameters : IsSmall c.parameters
  pub indices : IsSmall c.indices
  pub motives : IsSmall c.motives
  pub minors : IsSmall c.minors

pub recursor_made : (counts : Counts) (ts rs ps : List ℕ) (rn : Result Name Word)
    (ra : Result Tree Word) (rt : Result (List Name) Word) (rr : Result (List RecRule) Word)
    (rl : Result (List Name) Word) → AreSmallCounts counts → IsSmall (length rs) → IfOk rn IsName
    → IfOk ra IsTree → IfOk rr (AreKnown IsRule rs) → IfOk rl (AreKnown IsName ps)
    → IfOk (rn >>= λ name. (ra >>= λ type. (rt >>= λ types. (rr >>= λ rules. (rl >>= λ levels.
    Ok (a_recursor types name (record {
      name = name;
      levels = levels;
      type = type;
      recursor = record {
        parameters = counts.parameters;
        indices = counts.indices;
        motives = counts.motives;
        minors = counts.minors;
        k = counts.k;
        rules = rules;
      };
    }))))))) IsMember
recursor_made cs ts rs ps (Ok name) (Ok type) (Ok types) (Ok rules) (Ok levels) s few n a r l =
    let many = r.many in (
      refl,
      record {
        name = n;
        levels = l.each;
        type = a;
        parameters = s.parameters;
        indices = s.indices;
        motives = s.motives;
        minors = s.minors;
        rules = r.each;
        few = omega arith;
      },
    )
recursor_made cs ts rs ps (Ok name) (Ok type) (Ok types) (Ok rules) (Err w) s few n a r l = tt
recursor_made cs ts rs ps (Ok name) (Ok type) (Ok types) (Err w) rl s few n a r l = tt
recursor_made cs ts rs ps (Ok name) (Ok type) (Err w) rr rl s few n a r l = tt
recursor_made cs ts rs ps (Ok name) (Err w) rt rr rl s few n a r l = tt
recursor_made cs ts rs ps (Err w) ra rt rr rl s few n a r l = tt
