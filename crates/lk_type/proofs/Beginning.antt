-- The first question of a telescope runs as the row of its first binder.
use Rattle.std.proofs.Common.{◌≡◌, ℕ, ◌<◌, ◌≤◌, ◌⊎◌, inl, inr, List, [], ◌∷◌, map, length, Ok, Err, Result, ap, sym, subst, ◌∙◌, arith}
use Rattle.std.specs.Prelude.{IfOk}
use Rattle.lk_tree.specs.Tree.{Tree}
use Rattle.lk_questions.specs.Erased.{a_tree, erased, run_steps, out_of}
use Rattle.lk_questions.specs.Infer.{infer_steps}
use Rattle.lk_questions.specs.Table.{steps}
use Rattle.lk_store.specs.declared.memory.NoMemory.{NoMemory}
use Rattle.lk_store.specs.Contents.{Contents, tree_at, Extends}
use Rattle.lk_ask.specs.declared.next.Next.{Next}
use Rattle.lk_ask.specs.Looks.{Sight}
use Rattle.lk_type.specs.declared.sheet.Binders.{Binders}
use Rattle.lk_type.specs.declared.sheet.Telescope.{Telescope}
use Rattle.lk_type.specs.Sheets.{TypeSheet, map_telescope}
use Rattle.lk_type.specs.Telescopes.{bound_by, fresh, ahead, started, asked_for, telescope_domain}
use Rattle.lk_tree.specs.Tree.{local}
use Rattle.lk_tree.specs.Bind.{opened, bound}
use Rattle.lk_tree.specs.Loose.{loose}
use Rattle.lk_tree.specs.Putting.{put}
use Rattle.lk_tree.proofs.Puttings.{put_nothing}
use Rattle.lk_store.specs.Contents.{IsTree}
use Rattle.lk_store.proofs.Extending.{Extends-trans}
use Rattle.lk_type.specs.Openings.{IsBinder, IsOpened, IsAskedFor, RunsAs}
use Rattle.lk_type.proofs.Openings.{IsAdded, put_last}
use Rattle.lk_type.proofs.Telescopes.{IsAlike, runs_as_row}
use Rattle.lk_type.specs.Types.{type_next, Infers}

module _ {S R B : Type 0} {contents : S → Contents} {rest : S → R} {sight : R → Sight B} where
  -- the telescope was made before its domain is asked for
  made_then : {old new : S} {next : Next ℕ (TypeSheet ℕ)} (domain : ℕ) (s : Telescope ℕ) (T : Telescope Tree)
      → Extends (contents old) (contents new) → rest new ≡ rest old → domain < length (contents old).trees → map_telescope (tree_at (contents new)) s ≡ T
      → Infers contents rest sight new new (Ok next) (λ t. telescope_domain (map_telescope t s) (t domain))
      → Infers contents rest sight old new (Ok next) (λ t. telescope_domain T (t domain))
  made_then {old} {new} {next} domain s T x stays l is h =
      let place = (sight (rest new)).basis.place in
      let last = (sight (rest new)).last in
      let there = h.steps ∙ (ap (λ z. erased place a_tree last (telescope_domain z (tree_at (contents new) domain))) is
      ∙ ap (λ z. erased place a_tree last (telescope_domain T z)) (x.trees.same domain l)) in
      record {
        keeps = x;
        stays = ap (λ r. (sight r).basis) stays;
        known = h.known;
        steps = subst (λ r. type_next (sight r).basis.place (tree_at (contents new)) (sight (rest new)).last next
            ≡ erased (sight r).basis.place a_tree (sight r).last (telescope_domain T (tree_at (contents old) domain))) stays there;
      }

  -- and these are its Locals
  pub asked_first : {old new : S} {next : Next ℕ (TypeSheet ℕ)} (b : Binders) (e domain : ℕ) (locals : List ℕ) (first inside : ℕ) (others : List ℕ) (s : Telescope ℕ)
      → locals ≡ first ∷ others → Extends (contents old) (contents new) → rest new ≡ rest old → domain < length (contents old).trees
      → (let t = tree_at (contents old) in map_telescope (tree_at (contents new)) s
      ≡ asked_for b (started b (t e) (t first) (ahead (map t others) (t inside))) (map t others) (t inside))
      → Infers contents rest sight new new (Ok next) (λ t. telescope_domain (map_telescope t s) (t domain))
      → IsAskedFor contents rest sight old new (Ok next) b e domain locals inside
  asked_first {old} b e domain locals first inside others s parts x stays l is h y ys same =
      let t = tree_at (contents old) in
      let one : first ≡ y = cc in
      let more : others ≡ ys = cc in
      made_then domain s (asked_for b (started b (t e) (t y) (ahead (map t ys) (t inside))) (map t ys) (t inside)) x stays l (rw (one, more) at is) h

pub ok_on : {A E : Type 0} {P Q : A → Type 0} (r : Result A E) → ((v : A) → P v → Q v) → IfOk r P → IfOk r Q
ok_on (Ok v) f h = f v h
ok_on (Err e) f h = tt

-- the first Local of a binder
pub first_added : {b : Binders} {now later : Contents} {e domain body number x : ℕ} {after : List ℕ} → Extends now later → IsBinder now b e (domain, body) → number ≡ bound (tree_at now e)
    → IsTree later x (local number (put [] (tree_at now domain))) → after ≡ x ∷ [] → IsAdded b now later e domain body number x [] after
first_added {now = now} {e = e} grows is number made pushed = record {
  grows = grows;
  is_binder = is;
  is_number = number ∙ ap bound (sym (put_nothing 0 (tree_at now e)));
  made = made;
  pushed = pushed;
  closed = λ k d l. absurd (omega arith);
}

-- it is fresh, and the body is opened with it
first_fresh : {b : Binders} {now later : Contents} {e domain body number x : ℕ} → IsBinder now b e (domain, body) → number ≡ bound (tree_at now e)
    → IsTree later x (local number (put [] (tree_at now domain))) → tree_at later x ≡ fresh b (tree_at now domain) (tree_at now body)
first_fresh {b = b} {now = now} {domain = domain} {body = body} is number made = made.is ∙ (ap (λ n. local n (put [] (tree_at now domain))) (number ∙ ap bound is.is) ∙ ap (local (bound (bound_by b (tree_at now domain) (tree_at now body)))) (put_nothing 0 (tree_at now domain)))

first_opened : (x e : Tree) → loose x ≡ 0 → put (x ∷ []) e ≡ opened e x
first_opened x e z = sym (put_last [] x 0 e (λ k d l. absurd (omega arith)) z) ∙ ap (λ t. opened t x) (put_nothing 1 e)

-- no Locals came, or the body has no loose variable but the first
none_mapped : (t : ℕ → Tree) (more : List ℕ) {P : Type 0} → (more ≡ []) ⊎ P → (map t more ≡ []) ⊎ P
none_mapped t more (inl e) = inl (ap (map t) e)
none_mapped t more (inr h) = inr h

module _ {S R B : Type 0} {contents : S → Contents} {rest : S → R} {sight : R → Sight B} where
  -- all of it: a Local was added, the binders inside were opened, and the domain is asked for
  pub begun : {old inner new : S} {b : Binders} {e domain body number x : ℕ} {locals : List ℕ} (mid : S) (inside : ℕ) (result : Result (Next ℕ (TypeSheet ℕ)) NoMemory)
      → Extends (contents old) (contents mid) → rest mid ≡ rest old → Extends (contents mid) (contents inner) → rest inner ≡ rest mid
      → IsBinder (contents old) b e (domain, body) → number ≡ bound (tree_at (contents old) e)
      → IsTree (contents mid) x (local number (put [] (tree_at (contents old) domain)))
      → IsOpened (contents mid) (contents inner) b body (x ∷ []) locals (tree_at (contents inner) inside)
      → e < length (contents old).trees → IsAskedFor contents rest sight inner new result b e domain locals inside
      → RunsAs contents rest sight old new result (λ t. infer_steps (t e))
  begun {old} {inner} {new} {b} {e} {domain} {body} {number} {x} {locals} mid inside result grows stays grows2 stays2 is number_is made opens e_in asks =
      let h = asks x opens.more opens.is in
      let t = tree_at (contents inner) in
      let place = (sight (rest old)).basis.place in
      let last = (sight (rest old)).last in
      let A = tree_at (contents old) domain in
      let C = tree_at (contents old) body in
      let same = stays2 ∙ stays in
      let all_grow = Extends-trans _ _ _ grows grows2 in
      let fresh_mid = first_fresh is number_is made in
      let x_is : t x ≡ fresh b A C = grows2.trees.same x made.known ∙ fresh_mid in
      let e_is : t e ≡ bound_by b A C = all_grow.trees.same e e_in ∙ is.is in
      let body_stays : tree_at (contents mid) body ≡ C = grows.trees.same body is.body_in in
      let body_is : put (map (tree_at (contents mid)) (x ∷ [])) (tree_at (contents mid) body) ≡ opened C (fresh b A C) =
      ap (put (tree_at (contents mid) x ∷ [])) body_stays ∙ (first_opened (tree_at (contents mid) x) C (ap loose made.is) ∙ ap (opened C) fresh_mid) in
      let few : (opens.more ≡ []) ⊎ (loose C ≤ 1) = rw body_stays at opens.closed in
      let alike : IsAlike place (infer_steps (bound_by b A C))
      (telescope_domain (asked_for b (started b (bound_by b A C) (fresh b A C) (ahead (map t opens.more) (t inside))) (map t opens.more) (t inside)) A) =
      runs_as_row place b A C (map t opens.more) (t inside) (none_mapped t opens.more few) (rw body_is at opens.opens) in
      let program_is : telescope_domain (asked_for b (started b (t e) (t x) (ahead (map t opens.more) (t inside))) (map t opens.more) (t inside)) (t domain)
      ≡ telescope_domain (asked_for b (started b (bound_by b A C) (fresh b A C) (ahead (map t opens.more) (t inside))) (map t opens.more) (t inside)) A =
      ap (λ y. telescope_domain (asked_for b (started b y (t x) (ahead (map t opens.more) (t inside))) (map t opens.more) (t inside)) (t domain)) e_is
      ∙ (ap (λ y. telescope_domain (asked_for b (started b (bound_by b A C) y (ahead (map t opens.more) (t inside))) (map t opens.more) (t inside)) (t domain)) x_is
      ∙ ap (telescope_domain (asked_for b (started b (bound_by b A C) (fresh b A C) (ahead (map t opens.more) (t inside))) (map t opens.more) (t inside)))
      (all_grow.trees.same domain is.domain_in)) in
      record {
        keeps = Extends-trans _ _ _ all_grow h.keeps;
        stays = h.stays ∙ ap (λ r. (sight r).basis) same;
        known = h.known;
        runs = ok_on result (λ next steps_are budget.
            ap (λ s. run_steps (out_of steps place) s budget) (subst (λ r. type_next (sight r).basis.place (tree_at (contents new)) (sight (rest new)).last next
            ≡ erased (sight r).basis.place a_tree (sight r).last (telescope_domain (asked_for b (started b (t e) (t x) (ahead (map t opens.more) (t inside))) (map t opens.more) (t inside)) (t domain))) same steps_are)
            ∙ (ap (λ p. run_steps (out_of steps place) (erased place a_tree last p) budget) program_is
            ∙ (sym (alike.runs last budget) ∙ ap (λ z. run_steps (out_of steps place) (erased place a_tree last (infer_steps z)) budget) (sym is.is)))) h.steps;
      }
