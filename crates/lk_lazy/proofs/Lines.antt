-- The line of unfolding: two heads are looked up, one after the other.
use Rattle.std.proofs.Common.{◌≡◌, Bool, Option, Some, None, sym, ap, subst, ◌∙◌}
use Rattle.std.proofs.Math.Path.{fun_ext}
use Rattle.std.specs.Prelude.{ℕ, Result, Ok, Err, IfOk}
use Rattle.lk_tree.specs.Tree.{Tree}
use Rattle.lk_tree.specs.Spine.{head}
use Rattle.lk_rulebook.specs.Place.{Place}
use Rattle.lk_questions.specs.Program.{Program, ◌>>=◌}
use Rattle.lk_questions.specs.Erased.{truth, erased}
use Rattle.lk_questions.specs.Pairs.{Line, otherwise, ◌or_else◌}
use Rattle.lk_questions.specs.Unfolding.{Unfolding as Unfolds, unfolding_of, by_ranks, by_unfolding}
use Rattle.lk_store.specs.declared.memory.NoMemory.{NoMemory}
use Rattle.lk_store.specs.Contents.{Contents, tree_at, Extends}
use Rattle.lk_store.proofs.Made.{Extends-self}
use Rattle.lk_ask.specs.declared.next.Next.{Next}
use Rattle.lk_ask.specs.declared.next.Next.TheVariants.{No}
use Rattle.lk_tree.specs.declared.rule.Rule.{Rule}
use Rattle.lk_ask.specs.Looks.{Basis, Sight}
use Rattle.lk_lazy.specs.declared.heads.Unfolding.{Unfolding}
use Rattle.lk_lazy.specs.declared.sheet.LazySheet.{LazySheet}
use Rattle.lk_lazy.specs.Heads.{looked_up, unfolding_at, IsHeadUnfolding, IsLookedUp, LooksUp}
use Rattle.lk_lazy.specs.Lazies.{GoesLine, GivesLine}
use Rattle.lk_questions.proofs.Binding.{bind_bind}

-- the line looks two heads up
line_looks : (a b : Tree) (r : Program Bool)
    → looked_up (head a) (λ u. looked_up (head b) (λ v. by_ranks a b u v or_else r))
    ≡ (by_unfolding a b or_else r)
line_looks a b r =
    let second : Option Unfolds → Line = λ u. unfolding_of (head b) >>= λ v. by_ranks a b u v in
    sym (bind_bind (unfolding_of (head a)) second (λ o. otherwise o r)
    ∙ ap (λ k. unfolding_of (head a) >>= k)
    (fun_ext (λ u. bind_bind (unfolding_of (head b)) (λ v. by_ranks a b u v) (λ o. otherwise o r))))

-- what goes on as another line does
line_goes : {E : Type 0} (w : Place) (t : ℕ → Tree) (before middle last : Option ℕ)
    (one other : Line)
    (o : Result (Option (Next ℕ (LazySheet ℕ))) E)
    → ((r : Program Bool)
    → erased w truth middle (other or_else r) ≡ erased w truth before (one or_else r))
    → IfOk o (GoesLine w t middle last other) → IfOk o (GoesLine w t before last one)
line_goes w t before middle last one other (Ok (Some next)) h i = λ r. i r ∙ h r
line_goes w t before middle last one other (Ok None) h i = λ r. i r ∙ h r
line_goes w t before middle last one other (Err e) h i = tt

-- the two heads, as they unfold there
abbrev pub by_heads_at : {B : Type 0} → Contents → Basis B → ℕ → ℕ → Line
by_heads_at c b x y =
    by_ranks (tree_at c x) (tree_at c y)
    (unfolding_at b.place (head (tree_at c x))) (unfolding_at b.place (head (tree_at c y)))

module _ {S R B : Type 0} (contents : S → Contents) (rest : S → R) (sight : R → Sight B)
    (old middle : S) (a b : ℕ) where
  abbrev t : ℕ → Tree
  t = tree_at (contents old)

  abbrev w : Place
  w = (sight (rest old)).basis.place

  abbrev last_of : S → Option ℕ
  last_of s = (sight (rest s)).last

  abbrev line : Line
  line = by_unfolding (tree_at (contents old) a) (tree_at (contents old) b)

  same_extends : (s : S) → contents s ≡ contents old → Extends (contents old) (contents s)
  same_extends s e = rw e (Extends-self (contents old))

  -- the first head is refused
  pub first_refused : (r : Rule) → LooksUp contents rest sight old middle a (Err r)
      → GivesLine contents rest sight old middle (Ok (Some (No r))) line
  first_refused r h = record {
    keeps = same_extends middle h.same;
    stays = h.stays;
    known = tt;
    goes = λ p. sym (h.looked.refused
        (λ u. looked_up (head (t b)) (λ v. by_ranks (t a) (t b) u v or_else p)))
        ∙ ap (erased w truth (last_of old)) (line_looks (t a) (t b) p);
  }

  module _ (u : Option Unfolding) (h : LooksUp contents rest sight old middle a (Ok u)) where
    -- the second head is looked up where the first one was
    looked_there : (new : S) (o : Result (Option Unfolding) Rule)
        → LooksUp contents rest sight middle new b o
        → IsLookedUp (contents old) (sight (rest old)).basis (last_of middle) (last_of new) b o
    looked_there new o k = rw (h.same, h.stays) at k.looked

    -- whatever the first head goes on with
    first_looked : (p : Program Bool) → erased w truth (last_of middle)
        (looked_up (head (t b))
        (λ v. by_ranks (t a) (t b) (unfolding_at w (head (t a))) v or_else p))
        ≡ erased w truth (last_of old) (line or_else p)
    first_looked p =
        sym (h.looked.goes (λ x. looked_up (head (t b)) (λ v. by_ranks (t a) (t b) x v or_else p)))
        ∙ ap (erased w truth (last_of old)) (line_looks (t a) (t b) p)

    -- the second head is refused
    pub second_refused : (new : S) (r : Rule) → LooksUp contents rest sight middle new b (Err r)
        → GivesLine contents rest sight old new (Ok (Some (No r))) line
    second_refused new r k = record {
      keeps = same_extends new (k.same ∙ h.same);
      stays = k.stays ∙ h.stays;
      known = tt;
      goes = λ p. sym ((looked_there new (Err r) k).refused
          (λ v. by_ranks (t a) (t b) (unfolding_at w (head (t a))) v or_else p)) ∙ first_looked p;
    }

    -- neither is
    module _ (new last : S) (v : Option Unfolding)
        (k : LooksUp contents rest sight middle new b (Ok v)) where
      both_looked : (p : Program Bool)
          → erased w truth (last_of new)
          (by_heads_at (contents old) (sight (rest old)).basis a b or_else p)
          ≡ erased w truth (last_of old) (line or_else p)
      both_looked p =
          sym ((looked_there new (Ok v) k).goes
          (λ x. by_ranks (t a) (t b) (unfolding_at w (head (t a))) x or_else p)) ∙ first_looked p

      same_there : contents new ≡ contents old
      same_there = k.same ∙ h.same

      basis_there : (sight (rest new)).basis ≡ (sight (rest old)).basis
      basis_there = k.stays ∙ h.stays

      head_there : (e : ℕ) (o : Option Unfolding)
          → IsHeadUnfolding (contents old) (sight (rest old)).basis e o
          → IsHeadUnfolding (contents new) (sight (rest new)).basis e o
      head_there e o f =
          subst (λ b. IsHeadUnfolding (contents new) b e o) (sym basis_there)
          (subst (λ d. IsHeadUnfolding d (sight (rest old)).basis e o) (sym same_there) f)

      pub heads_go : (o : Result (Option (Next ℕ (LazySheet ℕ))) NoMemory)
          → (IsHeadUnfolding (contents new) (sight (rest new)).basis a u
          → IsHeadUnfolding (contents new) (sight (rest new)).basis b v
          → GivesLine contents rest sight new last o
          (by_heads_at (contents new) (sight (rest new)).basis a b))
          → GivesLine contents rest sight old last o line
      heads_go o f =
          let l = f (head_there a u h.looked.found)
          (head_there b v (looked_there new (Ok v) k).found) in
          record {
            keeps = subst (λ c. Extends c (contents last)) same_there l.keeps;
            stays = l.stays ∙ basis_there;
            known = l.known;
            goes = line_goes w (tree_at (contents last))
                (last_of old) (last_of new) (last_of last) line
                (by_heads_at (contents old) (sight (rest old)).basis a b) o both_looked
                (rw (same_there, basis_there) at l.goes);
          }
