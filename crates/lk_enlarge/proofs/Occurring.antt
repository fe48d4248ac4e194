-- What is known of an occurrence: its head, and what that means.
use Rattle.std.proofs.Common.{◌≡◌, Bool, true, false, ◌||◌, List, length, Option, Some, None, refl, sym, ap, ◌∙◌, if◌then◌else◌}
use Rattle.std.specs.Prelude.{nat_eq}
use Rattle.lk_tree.specs.Tree.{Name, Level, Tree, var, sort, const, app, lam, pi, let_in, proj, lit, wide, str, local}
use Rattle.lk_tree.specs.Spine.{head, args}
use Rattle.lk_tree.specs.Mentions.{is_one_of}
use Rattle.lk_rulebook.specs.Place.{Place, Entry, Kind, Block, BlockType, an_axiom, a_def, a_thm, an_opaque, a_quot, a_type, a_ctor, a_rec}
use Rattle.lk_inductive.specs.BlockSteps.{mention_none}
use Rattle.lk_env.specs.Lent.{type_in}
use Rattle.lk_nested.specs.Occurrences.{Test, passes, occurs, kind_test, entry_test, head_test, test_at, is_occurrence}

-- J at ls, of this block and this line
pub record Occurs (w : Place) (h : Tree) (q : Test) : Type 0 where
  pub name : Name
  pub levels : List Level
  pub block : Block
  pub type : BlockType
  pub entry : Entry
  pub head_is : h ≡ const name levels
  pub means : w.means name ≡ Some entry
  pub type_is : type_in entry.kind ≡ Some (block, type)
  pub test_is : q ≡ occurs name levels block type

module _ (w : Place) (J : Name) (ls : List Level) (xs : List Tree) (g : Entry) (means : w.means J ≡ Some g) where
  by_kind : (k : Kind) → type_in g.kind ≡ type_in k → is_occurrence (kind_test J ls xs k) ≡ true → Occurs w (const J ls) (kind_test J ls xs k)
  by_kind (a_type b t) is h = go (nat_eq (length xs) t.parameters) h
    where
      go : (n : Bool) → is_occurrence (if n then occurs J ls b t else passes) ≡ true → Occurs w (const J ls) (if n then occurs J ls b t else passes)
      go true e = record { name = J; levels = ls; block = b; type = t; entry = g; head_is = refl; means = means; type_is = is; test_is = refl }
      go false e = absurd cc
  by_kind an_axiom is h = absurd cc
  by_kind (a_def k v) is h = absurd cc
  by_kind (a_thm v) is h = absurd cc
  by_kind (an_opaque v) is h = absurd cc
  by_kind a_quot is h = absurd cc
  by_kind (a_ctor b t k) is h = absurd cc
  by_kind (a_rec r) is h = absurd cc

module _ (w : Place) (ns : List Name) where
  by_entry : (J : Name) (ls : List Level) (xs : List Tree) (o : Option Entry) → w.means J ≡ o → is_occurrence (entry_test J ls xs o (w.flaw J)) ≡ true → Occurs w (const J ls) (entry_test J ls xs o (w.flaw J))
  by_entry J ls xs None means h = absurd cc
  by_entry J ls xs (Some g) means h = by_kind w J ls xs g means g.kind refl h

  by_head : (h : Tree) (xs : List Tree) → is_occurrence (head_test w ns h xs) ≡ true → Occurs w h (head_test w ns h xs)
  by_head (const J ls) xs i = go (is_one_of ns J || mention_none ns xs) i
    where
      go : (b : Bool) → is_occurrence (if b then passes else entry_test J ls xs (w.means J) (w.flaw J)) ≡ true → Occurs w (const J ls) (if b then passes else entry_test J ls xs (w.means J) (w.flaw J))
      go true e = absurd cc
      go false e = by_entry J ls xs (w.means J) refl e
  by_head (var i) xs h = absurd cc
  by_head (sort l) xs h = absurd cc
  by_head (app f a) xs h = absurd cc
  by_head (lam A b) xs h = absurd cc
  by_head (pi A B) xs h = absurd cc
  by_head (let_in A v b) xs h = absurd cc
  by_head (proj S i s) xs h = absurd cc
  by_head (lit n) xs h = absurd cc
  by_head wide xs h = absurd cc
  by_head (str s) xs h = absurd cc
  by_head (local k T) xs h = absurd cc

  pub occurring : (e : Tree) → is_occurrence (test_at w ns e) ≡ true → Occurs w (head e) (test_at w ns e)
  occurring (app f a) h = by_head (head (app f a)) (args (app f a)) h
  occurring (var i) h = absurd cc
  occurring (sort l) h = absurd cc
  occurring (const c ls) h = absurd cc
  occurring (lam A b) h = absurd cc
  occurring (pi A B) h = absurd cc
  occurring (let_in A v b) h = absurd cc
  occurring (proj S i s) h = absurd cc
  occurring (lit n) h = absurd cc
  occurring wide h = absurd cc
  occurring (str s) h = absurd cc
  occurring (local k T) h = absurd cc

-- what a look-up of the name at its head tells is what its test tells
pub told_is : (w : Place) (ns : List Name) (e : Tree) → is_occurrence (test_at w ns e) ≡ true → (J : Name) (ls : List Level) (b : Block) (t : BlockType) → test_at w ns e ≡ occurs J ls b t
    → (x : Name) (ms : List Level) → const x ms ≡ head e → (o : Option (Block × BlockType)) (g : Entry) → w.means x ≡ Some g → type_in g.kind ≡ o → (x ≡ J) × (ms ≡ ls) × (o ≡ Some (b, t))
told_is w ns e h J ls b t is x ms at_head o g means kind =
    let q = occurring w ns e h in
    let same : occurs J ls b t ≡ occurs q.name q.levels q.block q.type = sym is ∙ q.test_is in
    let J_is : J ≡ q.name = cc in
    let ls_is : ls ≡ q.levels = cc in
    let b_is : b ≡ q.block = cc in
    let t_is : t ≡ q.type = cc in
    let heads : const x ms ≡ const q.name q.levels = at_head ∙ q.head_is in
    let x_is : x ≡ q.name = cc in
    let ms_is : ms ≡ q.levels = cc in
    let entries : Some g ≡ Some q.entry = sym means ∙ ap w.means x_is ∙ q.means in
    let g_is : g ≡ q.entry = cc in (
      x_is ∙ sym J_is,
      ms_is ∙ sym ls_is,
      sym kind ∙ ap (λ (y : Entry). type_in y.kind) g_is ∙ q.type_is ∙ ap (λ y. Some (y, q.type)) (sym b_is) ∙ ap (λ y. Some (b, y)) (sym t_is),
    )

pub some_is : {A : Type 0} (x y : A) → Some x ≡ Some y → x ≡ y
some_is x y h = cc
