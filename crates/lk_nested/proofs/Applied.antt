-- Constants applied to arguments, and whether they are nested occurrences.
use Rattle.std.proofs.Common.{◌≡◌, ℕ, ◌<◌, ◌≤◌, ◌+◌, ◌-◌, Bool, true, false, ◌&&◌, ◌||◌, List, [], ◌∷◌, ◌++◌, length, Option, None, Some, Ok, Err, Result, refl, sym, ap, subst, ◌∙◌, arith}
use Rattle.std.specs.Prelude.{not, nat_eq, if◌then◌else◌}
use Rattle.std.proofs.lemmas.Bool.Decides.{nat_tests}
use Rattle.std.proofs.lemmas.List.{length-append}
use Rattle.std.proofs.lemmas.List.Elements.{All-push}
use Rattle.lk_tree.specs.Tree.{Name, Tree, var, sort, const, app, lam, pi, let_in, proj, lit, wide, str, local}
use Rattle.lk_tree.specs.Spine.{head, args}
use Rattle.lk_tree.specs.Mentions.{is_one_of, mentions}
use Rattle.lk_tree.specs.declared.rule.Rule.{Rule}
use Rattle.lk_tree.specs.declared.rule.Rule.TheVariants.{UnknownConstant}
use Rattle.lk_rulebook.specs.Place.{Place, Entry, Kind, an_axiom, a_def, a_thm, an_opaque, a_quot, a_type, a_ctor, a_rec}
use Rattle.lk_questions.specs.Program.{Program, done, look}
use Rattle.lk_inductive.specs.BlockSteps.{mention_none}
use Rattle.lk_inductive.specs.Nested.{holds_kind, holds_head, either_holds, holds_nested}
use Rattle.lk_store.specs.Contents.{Contents, tree_at, tree_of}
use Rattle.lk_store.specs.declared.node.Node.{Node}
use Rattle.lk_store.specs.declared.node.Node.TheVariants as node
use Rattle.lk_spine.specs.Reading.{left_depth}
use Rattle.lk_ask.specs.declared.stop.Stop.{Stop}
use Rattle.lk_ask.specs.declared.stop.Stop.TheVariants.{No}
use Rattle.lk_ask.specs.Constants.{IsRefused}
use Rattle.lk_env.specs.Lent.{parameters_in, HasParameters}
use Rattle.lk_nested.specs.declared.spines.Spine.{Spine}
use Rattle.lk_nested.specs.Findings.{refused, looked, finding, then_held}
use Rattle.lk_lists.specs.Names.{named_at}
use Rattle.lk_nested.specs.Nestings.{constant_name, constant_in, function_of, function_at, function_in, IsSpine, AreSpines, nested_in, nested_below, IsHeadTest, IsTreeTest}
use Rattle.lk_nested.proofs.Findings.{either_found}

pub node_named : (c : Contents) (n : Node) (e : ℕ) → tree_of c n ≡ tree_at c e → named_at c (constant_in n) ≡ constant_name (tree_at c e)
node_named c n e is = go n ∙ ap constant_name is
  where
    go : (n : Node) → named_at c (constant_in n) ≡ constant_name (tree_of c n)
    go (node.Var i) = refl
    go (node.Sort l) = refl
    go (node.Const n ls) = refl
    go (node.App f a) = refl
    go (node.Lam A b) = refl
    go (node.Pi A B) = refl
    go (node.Let A v b) = refl
    go (node.Proj S i s) = refl
    go (node.Lit n) = refl
    go node.Wide = refl
    go (node.Str s) = refl
    go (node.Local k T) = refl

pub node_applied : (c : Contents) (n : Node) (e : ℕ) → tree_of c n ≡ tree_at c e → function_at c (function_in n) ≡ function_of (tree_at c e)
node_applied c n e is = go n ∙ ap function_of is
  where
    go : (n : Node) → function_at c (function_in n) ≡ function_of (tree_of c n)
    go (node.Var i) = refl
    go (node.Sort l) = refl
    go (node.Const n ls) = refl
    go (node.App f a) = refl
    go (node.Lam A b) = refl
    go (node.Pi A B) = refl
    go (node.Let A v b) = refl
    go (node.Proj S i s) = refl
    go (node.Lit n) = refl
    go node.Wide = refl
    go (node.Str s) = refl
    go (node.Local k T) = refl

-- an application's head is that of its function, which has one argument less
head_of_function : (t f : Tree) → function_of t ≡ Some f → head t ≡ head f
unfolding head
head_of_function (app g a) f h = let same : g ≡ f = cc in ap head same
head_of_function (var i) f h = absurd cc
head_of_function (sort l) f h = absurd cc
head_of_function (const c ls) f h = absurd cc
head_of_function (lam A b) f h = absurd cc
head_of_function (pi A B) f h = absurd cc
head_of_function (let_in A v b) f h = absurd cc
head_of_function (proj S i s) f h = absurd cc
head_of_function (lit n) f h = absurd cc
head_of_function wide f h = absurd cc
head_of_function (str s) f h = absurd cc
head_of_function (local k T) f h = absurd cc

count_of_function : (t f : Tree) → function_of t ≡ Some f → length (args t) ≡ length (args f) + 1
unfolding args
count_of_function (app g a) f h = let same : g ≡ f = cc in length-append (args g) (a ∷ []) ∙ ap (λ x. length (args x) + 1) same
count_of_function (var i) f h = absurd cc
count_of_function (sort l) f h = absurd cc
count_of_function (const c ls) f h = absurd cc
count_of_function (lam A b) f h = absurd cc
count_of_function (pi A B) f h = absurd cc
count_of_function (let_in A v b) f h = absurd cc
count_of_function (proj S i s) f h = absurd cc
count_of_function (lit n) f h = absurd cc
count_of_function wide f h = absurd cc
count_of_function (str s) f h = absurd cc
count_of_function (local k T) f h = absurd cc

depth_of_function : (t f : Tree) → function_of t ≡ Some f → left_depth f < left_depth t
depth_of_function (app g a) f h = let same : g ≡ f = cc in let e : left_depth g ≡ left_depth f = ap left_depth same in omega arith
depth_of_function (var i) f h = absurd cc
depth_of_function (sort l) f h = absurd cc
depth_of_function (const c ls) f h = absurd cc
depth_of_function (lam A b) f h = absurd cc
depth_of_function (pi A B) f h = absurd cc
depth_of_function (let_in A v b) f h = absurd cc
depth_of_function (proj S i s) f h = absurd cc
depth_of_function (lit n) f h = absurd cc
depth_of_function wide f h = absurd cc
depth_of_function (str s) f h = absurd cc
depth_of_function (local k T) f h = absurd cc

-- what is no application is its own head, and has no arguments
head_itself : (t : Tree) → function_of t ≡ None → head t ≡ t
unfolding head
head_itself (app g a) h = absurd cc
head_itself (var i) h = refl
head_itself (sort l) h = refl
head_itself (const c ls) h = refl
head_itself (lam A b) h = refl
head_itself (pi A B) h = refl
head_itself (let_in A v b) h = refl
head_itself (proj S i s) h = refl
head_itself (lit n) h = refl
head_itself wide h = refl
head_itself (str s) h = refl
head_itself (local k T) h = refl

no_arguments : (t : Tree) → function_of t ≡ None → length (args t) ≡ 0
unfolding args
no_arguments (app g a) h = absurd cc
no_arguments (var i) h = refl
no_arguments (sort l) h = refl
no_arguments (const c ls) h = refl
no_arguments (lam A b) h = refl
no_arguments (pi A B) h = refl
no_arguments (let_in A v b) h = refl
no_arguments (proj S i s) h = refl
no_arguments (lit n) h = refl
no_arguments wide h = refl
no_arguments (str s) h = refl
no_arguments (local k T) h = refl

module _ (c : Contents) (t : Tree) (f : ℕ) (applied : function_of t ≡ Some (tree_at c f)) where
  pub count_down : length (args t) ≡ length (args (tree_at c f)) + 1
  count_down = count_of_function t (tree_at c f) applied

-- one step down to the left
module _ (c : Contents) (e at f n m : ℕ) (applied : function_of (tree_at c at) ≡ Some (tree_at c f)) where
  pub same_down : head (tree_at c e) ≡ head (tree_at c at) → head (tree_at c e) ≡ head (tree_at c f)
  same_down h = h ∙ head_of_function (tree_at c at) (tree_at c f) applied

  pub counted_down : length (args (tree_at c e)) ≡ n + length (args (tree_at c at)) → m ≡ n + 1 → length (args (tree_at c e)) ≡ m + length (args (tree_at c f))
  counted_down h more = let k = count_down c (tree_at c at) f applied in omega arith

-- nothing is left of the way down
pub spine_ends : (c : Contents) (e at n : ℕ) (s : Spine) → at < length c.trees → head (tree_at c e) ≡ head (tree_at c at) → length (args (tree_at c e)) ≡ n + length (args (tree_at c at)) → function_of (tree_at c at) ≡ None → s.head ≡ at → s.count ≡ n → IsSpine c e s
spine_ends c e at n s known same counted none h k = record {
  head_in = subst (λ i. i < length c.trees) (sym h) known;
  head_is = ap (tree_at c) h ∙ sym (same ∙ head_itself (tree_at c at) none);
  count_is = let z = no_arguments (tree_at c at) none in omega arith;
}

-- what is kept of an application's function
module _ (c : Contents) (s : Spine) (f : ℕ) (spine : IsSpine c s.tree s) (applied : function_of (tree_at c s.tree) ≡ Some (tree_at c f)) where
  pub some_argument : 1 ≤ s.count
  some_argument = let n = count_down c (tree_at c s.tree) f applied in let k = spine.count_is in omega arith

  pub function_spine : (r : Spine) → r.head ≡ s.head → r.count ≡ s.count - 1 → IsSpine c f r
  function_spine r same less = record {
    head_in = subst (λ i. i < length c.trees) (sym same) spine.head_in;
    head_is = ap (tree_at c) same ∙ spine.head_is ∙ head_of_function (tree_at c s.tree) (tree_at c f) applied;
    count_is = let n = count_down c (tree_at c s.tree) f applied in let k = spine.count_is in omega arith;
  }

pub spines_pushed : (c : Contents) (old new : List Spine) (row : Spine) → AreSpines c old → IsSpine c row.tree row → new ≡ old ++ row ∷ [] → AreSpines c new
spines_pushed c old new row h own is = subst (AreSpines c) (sym is) (All-push (λ (s : Spine). IsSpine c s.tree s) old row h own)

and_true : (b : Bool) → (b && true) ≡ b
and_true true = refl
and_true false = refl

and_assoc : (a b d : Bool) → (a && (b && d)) ≡ ((a && b) && d)
and_assoc true b d = refl
and_assoc false b d = refl

neither : (a b : Bool) → (not a && not b) ≡ not (a || b)
neither true b = refl
neither false b = refl

module _ (ns : List Name) where
  none_append : (xs : List Tree) (a : Tree) → mention_none ns (xs ++ a ∷ []) ≡ (mention_none ns xs && not (mentions ns a))
  none_append [] a = and_true (not (mentions ns a))
  none_append (x ∷ xs) a = ap (λ b. not (mentions ns x) && b) (none_append xs a) ∙ and_assoc (not (mentions ns x)) (mention_none ns xs) (not (mentions ns a))

  pub none_applied : (f a : Tree) → mention_none ns (args (app f a)) ≡ (mention_none ns (args f) && not (mentions ns a))
  unfolding args
  none_applied f a = none_append (args f) a

  -- where the head is none of the names, the arguments decide
  pub mentions_spine : (t : Tree) (J : Name) → constant_name (head t) ≡ Some J → is_one_of ns J ≡ false → mention_none ns (args t) ≡ not (mentions ns t)
  unfolding head args
  mentions_spine (app f a) J is other = none_applied f a ∙ ap (λ b. b && not (mentions ns a)) (mentions_spine f J is other) ∙ neither (mentions ns f) (mentions ns a)
  mentions_spine (const c ls) J is other = let same : c ≡ J = cc in sym (ap (λ n. not (is_one_of ns n)) same ∙ ap not other)
  mentions_spine (var i) J is other = absurd cc
  mentions_spine (sort l) J is other = absurd cc
  mentions_spine (lam A b) J is other = absurd cc
  mentions_spine (pi A B) J is other = absurd cc
  mentions_spine (let_in A v b) J is other = absurd cc
  mentions_spine (proj S i s) J is other = absurd cc
  mentions_spine (lit n) J is other = absurd cc
  mentions_spine wide J is other = absurd cc
  mentions_spine (str s) J is other = absurd cc
  mentions_spine (local k T) J is other = absurd cc

-- a type with just so many parameters, and any other kind
kind_matches : (k : Kind) (xs : List Tree) (next : Program Bool) → Some (length xs) ≡ parameters_in k → holds_kind xs k next ≡ done true
kind_matches an_axiom xs next h = absurd cc
kind_matches (a_def g v) xs next h = absurd cc
kind_matches (a_thm v) xs next h = absurd cc
kind_matches (an_opaque v) xs next h = absurd cc
kind_matches a_quot xs next h = absurd cc
kind_matches (a_type b t) xs next h = let same : length xs ≡ t.parameters = cc in let is : nat_eq (length xs) t.parameters ≡ true = grind (arith, nat_tests) in ap (λ (b : Bool). if b then done true else next) is
kind_matches (a_ctor b t k) xs next h = absurd cc
kind_matches (a_rec r) xs next h = absurd cc

-- any other kind, and a type with another number of parameters
kind_differs : (k : Kind) (xs : List Tree) (next : Program Bool) → (Some (length xs) ≡ parameters_in k → ⊥) → holds_kind xs k next ≡ next
kind_differs an_axiom xs next h = refl
kind_differs (a_def g v) xs next h = refl
kind_differs (a_thm v) xs next h = refl
kind_differs (an_opaque v) xs next h = refl
kind_differs a_quot xs next h = refl
kind_differs (a_type b t) xs next h = go (nat_eq (length xs) t.parameters) refl
  where
    go : (same : Bool) → nat_eq (length xs) t.parameters ≡ same → (if same then done true else next) ≡ next
    go true is = absurd (h (let e : length xs ≡ t.parameters = grind (arith, nat_tests) in ap (λ n. Some n) e))
    go false is = refl
kind_differs (a_ctor b t k) xs next h = refl
kind_differs (a_rec r) xs next h = refl

named_head : List Name → Name → List Tree → Program Bool → Program Bool
named_head ns J xs next = if is_one_of ns J || mention_none ns xs then next else look UnknownConstant J λ g. holds_kind xs g.kind next

head_named : (ns : List Name) (h : Tree) (J : Name) (xs : List Tree) (next : Program Bool) → constant_name h ≡ Some J → holds_head ns h xs next ≡ named_head ns J xs next
unfolding named_head
head_named ns (const c ls) J xs next is = let same : c ≡ J = cc in ap (λ n. named_head ns n xs next) same
head_named ns (app f a) J xs next is = absurd cc
head_named ns (var i) J xs next is = absurd cc
head_named ns (sort l) J xs next is = absurd cc
head_named ns (lam A b) J xs next is = absurd cc
head_named ns (pi A B) J xs next is = absurd cc
head_named ns (let_in A v b) J xs next is = absurd cc
head_named ns (proj S i s) J xs next is = absurd cc
head_named ns (lit n) J xs next is = absurd cc
head_named ns wide J xs next is = absurd cc
head_named ns (str s) J xs next is = absurd cc
head_named ns (local k T) J xs next is = absurd cc

or_is : (a b d : Bool) → a ≡ false → b ≡ d → (a || b) ≡ d
or_is a b d e f = ap (λ x. x || b) e ∙ f

module _ (w : Place) (ns : List Name) (h : Tree) (xs : List Tree) (J : Name) (named : constant_name h ≡ Some J) where
  module _ (other : is_one_of ns J ≡ false) where
    decided_head : (b : Bool) (next : Program Bool) → mention_none ns xs ≡ b → holds_head ns h xs next ≡ (if b then next else look UnknownConstant J λ g. holds_kind xs g.kind next)
    unfolding named_head
    decided_head b next is =
        head_named ns h J xs next named
        ∙ ap (λ (b : Bool). if b then next else look UnknownConstant J λ g. holds_kind xs g.kind next) (or_is (is_one_of ns J) (mention_none ns xs) b other is)

    looks_up : (next : Program Bool) (o : Option Entry) → w.means J ≡ o → finding w (look UnknownConstant J λ g. holds_kind xs g.kind next) ≡ looked o (w.flaw J) UnknownConstant (λ g. finding w (holds_kind xs g.kind next))
    looks_up next o is = ap (λ x. looked x (w.flaw J) UnknownConstant (λ g. finding w (holds_kind xs g.kind next))) is

    -- it is a type with just so many parameters, and an argument mentions one
    pub test_nested : (p : ℕ) → mention_none ns xs ≡ false → HasParameters w J (Some p) → length xs ≡ p → IsHeadTest w ns h xs (Ok true)
    test_nested p is has count = λ next.
        ap (finding w) (decided_head false next is) ∙ looks_up next (Some has.entry) has.means
        ∙ ap (finding w) (kind_matches has.entry.kind xs next (ap (λ n. Some n) count ∙ has.count_is))

    -- it is none
    pub test_other : (count : Option ℕ) → mention_none ns xs ≡ false → HasParameters w J count → (Some (length xs) ≡ count → ⊥) → IsHeadTest w ns h xs (Ok false)
    test_other count is has differs = λ next.
        ap (finding w) (decided_head false next is) ∙ looks_up next (Some has.entry) has.means
        ∙ ap (finding w) (kind_differs has.entry.kind xs next (λ e. differs (e ∙ sym has.count_is)))

    -- the look-up is refused
    pub test_refused : (r : Rule) → mention_none ns xs ≡ false → IsRefused w J r → IsHeadTest w ns h xs (Err (No r))
    test_refused r is missing = λ next.
        ap (finding w) (decided_head false next is) ∙ looks_up next None missing.means ∙ ap (λ s. refused s) (sym missing.rule)

-- a constant at the head of t that is none of the names, where t mentions one of them
module _ (w : Place) (ns : List Name) (t : Tree) (J : Name) (named : constant_name (head t) ≡ Some J) (other : is_one_of ns J ≡ false) (mentioning : mentions ns t ≡ true) where
  some_argument_mentions : mention_none ns (args t) ≡ false
  some_argument_mentions = mentions_spine ns t J named other ∙ ap not mentioning

  pub test_exact : (p : ℕ) → HasParameters w J (Some p) → length (args t) ≡ p → IsHeadTest w ns (head t) (args t) (Ok true)
  test_exact p has count = test_nested w ns (head t) (args t) J named other p some_argument_mentions has count

  pub test_counted : (count : Option ℕ) → HasParameters w J count → (Some (length (args t)) ≡ count → ⊥) → IsHeadTest w ns (head t) (args t) (Ok false)
  test_counted count has differs = test_other w ns (head t) (args t) J named other count some_argument_mentions has differs

  pub test_missing : (r : Rule) → IsRefused w J r → IsHeadTest w ns (head t) (args t) (Err (No r))
  test_missing r missing = test_refused w ns (head t) (args t) J named other r some_argument_mentions missing

-- what is no application
pub test_unapplied : (w : Place) (ns : List Name) (t : Tree) → function_of t ≡ None → nested_in w ns t ≡ nested_below w ns t
test_unapplied w ns (app f a) h = absurd cc
test_unapplied w ns (lam A b) h = either_found w (holds_nested ns A) (holds_nested ns b)
test_unapplied w ns (pi A B) h = either_found w (holds_nested ns A) (holds_nested ns B)
test_unapplied w ns (let_in A v b) h =
    either_found w (holds_nested ns A) (either_holds (holds_nested ns v) (holds_nested ns b)) ∙ ap (then_held (nested_in w ns A)) (either_found w (holds_nested ns v) (holds_nested ns b))
test_unapplied w ns (proj S i s) h = refl
test_unapplied w ns (const c ls) h = refl
test_unapplied w ns (var i) h = refl
test_unapplied w ns (sort l) h = refl
test_unapplied w ns (lit n) h = refl
test_unapplied w ns wide h = refl
test_unapplied w ns (str s) h = refl
test_unapplied w ns (local k T) h = refl

-- an application
pub test_applied : (w : Place) (ns : List Name) (t f : Tree) (r : Result Bool Stop) → function_of t ≡ Some f → IsHeadTest w ns (head t) (args t) r → IsTreeTest w ns t r
test_applied w ns (app g a) f (Ok true) h test = test (either_holds (holds_nested ns g) (holds_nested ns a))
test_applied w ns (app g a) f (Ok false) h test = test (either_holds (holds_nested ns g) (holds_nested ns a)) ∙ either_found w (holds_nested ns g) (holds_nested ns a)
test_applied w ns (app g a) f (Err stop) h test = test (either_holds (holds_nested ns g) (holds_nested ns a))
test_applied w ns (lam A b) f r h test = absurd cc
test_applied w ns (pi A B) f r h test = absurd cc
test_applied w ns (let_in A v b) f r h test = absurd cc
test_applied w ns (proj S i s) f r h test = absurd cc
test_applied w ns (const c ls) f r h test = absurd cc
test_applied w ns (var i) f r h test = absurd cc
test_applied w ns (sort l) f r h test = absurd cc
test_applied w ns (lit n) f r h test = absurd cc
test_applied w ns wide f r h test = absurd cc
test_applied w ns (str s) f r h test = absurd cc
test_applied w ns (local k T) f r h test = absurd cc
