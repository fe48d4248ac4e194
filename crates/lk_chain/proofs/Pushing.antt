-- Lets that have the values of those around them already.
use Rattle.std.proofs.Common.{◌≡◌, ◌<◌, ℕ, suc, Bool, true, false, List, [], ◌∷◌, ◌++◌, length, map, refl, ap, sym, ◌∙◌, arith}
use Rattle.std.specs.Prelude.{All, Result, Ok, Err, IfOk}
use Rattle.std.proofs.lemmas.List.Elements.{All-head, All-tail, All-push}
use Rattle.std.proofs.lemmas.List.{map-append}
use Rattle.lk_tree.specs.Tree.{Tree, app, let_in}
use Rattle.lk_tree.specs.Bind.{opened}
use Rattle.lk_tree.specs.Loose.{loose}
use Rattle.lk_tree.specs.Putting.{put, put_at}
use Rattle.lk_rulebook.specs.Place.{Place}
use Rattle.lk_questions.specs.Query.{whnf, infer, same}
use Rattle.lk_questions.specs.Program.{done, asked}
use Rattle.lk_tree.specs.declared.rule.Rule.TheVariants.{LetType}
use Rattle.lk_questions.specs.Infer.{infer_steps}
use Rattle.lk_questions.specs.Steps.{given}
use Rattle.lk_store.specs.Contents.{Contents, tree_at, Extends, IsTree}
use Rattle.lk_store.proofs.Extending.{Extends-trans}
use Rattle.lk_ask.proofs.Sheets.{grown}
use Rattle.lk_subst.specs.Numbers.{trees-steady, trees-known}
use Rattle.lk_tree.proofs.Puttings.{put_nothing}
use Rattle.lk_store.specs.declared.memory.NoMemory.{NoMemory}
use Rattle.lk_subst.proofs.Unchanged.{open_at-closed}
use Rattle.lk_chain.specs.Alike.{IsAlike}
use Rattle.lk_chain.specs.Lets.{IsLet, let_over, lets_over, PushesTo, AreClosed}
use Rattle.lk_chain.proofs.Alike.{ask_alike, itself, sort_alike, infer_alike}
use Rattle.lk_chain.proofs.Closed.{closed_known, closed_steady, none_loose}
use Rattle.lk_chain.proofs.Puttings.{put_last, open_loose}

-- the last one is the innermost
pub lets_last : (hs : List Tree) (h r : Tree) → lets_over (hs ++ h ∷ []) r ≡ lets_over hs (let_over h r)
lets_last [] h r = refl
lets_last (k ∷ hs) h r = ap (let_over k) (lets_last hs h r)

pub pushes_last : (e : Tree) (hs : List Tree) (A v b : Tree) → PushesTo e hs (let_in A v b) → PushesTo e (hs ++ app A v ∷ []) (opened b v)
pushes_last e [] A v b p = (A, v, b, refl, p, refl)
pushes_last e (h ∷ hs) A v b p = (p.0, p.1, p.2, p.3, p.4, pushes_last (opened p.2 p.1) hs A v b p.5)

-- the parts of a let in which nothing is loose
record IsClosedLet (A v b : Tree) : Type 0 where
  ty : loose A ≡ 0
  value : loose v ≡ 0
  inside : loose (opened b v) ≡ 0

closed_let : (e A v b : Tree) → e ≡ let_in A v b → loose e ≡ 0 → IsClosedLet A v b
closed_let e A v b is z =
    let all : loose (let_in A v b) ≡ 0 = ap loose (sym is) ∙ z in
    let none : loose v ≡ 0 = omega (arith, all) in
    let less = open_loose 0 v b none (omega (arith, all)) in
    record { ty = omega (arith, all); value = none; inside = omega (arith, less) }

-- what stands inside is closed
pub inside_closed : (e : Tree) (hs : List Tree) (r : Tree) → loose e ≡ 0 → PushesTo e hs r → loose r ≡ 0
inside_closed e [] r z p = ap loose (sym p) ∙ z
inside_closed e (h ∷ hs) r z (A, v, b, f, g, p) = inside_closed (opened b v) hs r (closed_let e A v b g z).inside p

-- and so are the lets over it
over_closed : (e : Tree) (hs : List Tree) (r : Tree) → loose e ≡ 0 → PushesTo e hs r → loose (lets_over hs r) ≡ 0
over_closed e [] r z p = ap loose (sym p) ∙ z
over_closed e (h ∷ hs) r z (A, v, b, f, g, p) =
    let c = closed_let e A v b g z in
    let first = c.ty in
    let second = c.value in
    let more = over_closed (opened b v) hs r c.inside p in
    rw f (omega (arith, first, second, more))

module _ (w : Place) where
  -- a let whose body is the opened one
  let_alike : (A v b o : Tree) → loose o ≡ 0 → IsAlike w (infer_steps o) (infer_steps (opened b v)) → IsAlike w (infer_steps (let_in A v o)) (infer_steps (let_in A v b))
  let_alike A v b o z h =
      ask_alike w (infer A) _ _ (λ T. ask_alike w (whnf T) _ _ (λ S. sort_alike w S _ _ (λ l.
      ask_alike w (infer v) _ _ (λ V. ask_alike w (same V A) _ _ ends))))
    where
      ends : (equal : Bool) → IsAlike w (given equal LetType (asked (infer (opened o v)))) (given equal LetType (asked (infer (opened b v))))
      ends true = rw (open_at-closed 0 v o (omega (arith, z))) (infer_alike w o (opened b v) (λ T. done T) h)
      ends false = itself w _

  pub pushed_alike : (e : Tree) (hs : List Tree) (r : Tree) → loose e ≡ 0 → PushesTo e hs r → IsAlike w (infer_steps (lets_over hs r)) (infer_steps e)
  pushed_alike e [] r z p = rw p (itself w _)
  pushed_alike e (h ∷ hs) r z (A, v, b, f, g, p) =
      let c = (closed_let e A v b g z).inside in
      rw (f, g) (let_alike A v b (lets_over hs r) (over_closed (opened b v) hs r c p) (pushed_alike (opened b v) hs r c p))

-- the lets so far, and what stands inside them
pub record IsPushing (began now : Contents) (e : ℕ) (heads values : List ℕ) (inside : ℕ) : Type 0 where
  pub heads_in : All (λ x. x < length now.trees) heads
  pub values_in : AreClosed now values
  pub inside_in : inside < length now.trees
  pub pushes : PushesTo (tree_at began e) (map (tree_at now) heads) (put (map (tree_at now) values) (tree_at now inside))

put_let : (vs : List Tree) (A v b : Tree) → put vs (let_in A v b) ≡ let_in (put vs A) (put vs v) (put_at vs 1 b)
unfolding put_at
put_let vs A v b = refl

-- a let was met, and its type and value were made
pub record IsMet (now one two later : Contents) (values : List ℕ) (inside ty value body new_ty new_value head : ℕ) : Type 0 where
  pub is_let : IsLet now inside (ty, value, body)
  pub grows_one : Extends now one
  pub made_ty : IsTree one new_ty (put (map (tree_at now) values) (tree_at now ty))
  pub grows_two : Extends one two
  pub made_value : IsTree two new_value (put (map (tree_at one) values) (tree_at one value))
  pub grows : Extends two later
  pub made : IsTree later head (app (tree_at two new_ty) (tree_at two new_value))

pub pushing_on : {began now one two later : Contents} {e inside ty value body new_ty new_value head : ℕ} {heads values more more_values : List ℕ}
    → loose (tree_at began e) ≡ 0 → IsPushing began now e heads values inside → IsMet now one two later values inside ty value body new_ty new_value head
    → more ≡ heads ++ head ∷ [] → more_values ≡ values ++ new_value ∷ [] → IsPushing began later e more more_values body
pushing_on {began} {now} {one} {two} {later} {e} {inside} {ty} {value} {body} {new_ty} {new_value} {head} {heads} {values} {more} {more_values} z p m pushed pushed_values =
    let vs = map (tree_at now) values in
    let A = put vs (tree_at now ty) in
    let V = put vs (tree_at now value) in
    let B = put_at vs 1 (tree_at now body) in
    let known = closed_known now values p.values_in in
    let value_is : tree_at two new_value ≡ V =
    m.made_value.is ∙ (ap (λ l. put l (tree_at one value)) (trees-steady now one values m.grows_one known) ∙ ap (put vs) (m.grows_one.trees.same value m.is_let.value_in)) in
    let ty_is : tree_at two new_ty ≡ A = m.grows_two.trees.same new_ty m.made_ty.known ∙ m.made_ty.is in
    let head_is : tree_at later head ≡ app A V = m.made.is ∙ (ap (λ a. app a (tree_at two new_value)) ty_is ∙ ap (app A) value_is) in
    let late = m.grows.trees.same new_value m.made_value.known ∙ value_is in
    let all = Extends-trans now one later m.grows_one (Extends-trans one two later m.grows_two m.grows) in
    let here : put vs (tree_at now inside) ≡ let_in A V B = ap (put vs) m.is_let.is ∙ put_let vs (tree_at now ty) (tree_at now value) (tree_at now body) in
    let pushes : PushesTo (tree_at began e) (map (tree_at now) heads) (let_in A V B) = rw here at p.pushes in
    let whole = inside_closed (tree_at began e) (map (tree_at now) heads) (let_in A V B) z pushes in
    let none : loose V ≡ 0 = omega (arith, whole) in
    let heads_then : map (tree_at later) more ≡ map (tree_at now) heads ++ app A V ∷ [] =
    ap (map (tree_at later)) pushed ∙ (map-append (tree_at later) heads (head ∷ [])
    ∙ (ap (λ l. l ++ tree_at later head ∷ []) (trees-steady now later heads all p.heads_in) ∙ ap (λ t. map (tree_at now) heads ++ t ∷ []) head_is)) in
    let values_then : map (tree_at later) more_values ≡ vs ++ V ∷ [] =
    ap (map (tree_at later)) pushed_values ∙ (map-append (tree_at later) values (new_value ∷ [])
    ∙ (ap (λ l. l ++ tree_at later new_value ∷ []) (trees-steady now later values all known) ∙ ap (λ t. vs ++ t ∷ []) late)) in
    let body_then : put (map (tree_at later) more_values) (tree_at later body) ≡ opened B V =
    ap (λ l. put l (tree_at later body)) values_then ∙ (ap (put (vs ++ V ∷ [])) (all.trees.same body m.is_let.body_in)
    ∙ sym (put_last vs V 0 (tree_at now body) (none_loose now values p.values_in) none)) in
    record {
      heads_in = rw pushed (All-push (λ x. x < length later.trees) heads head (trees-known now later heads all p.heads_in) m.made.known);
      values_in = rw pushed_values (All-push (λ x. (x < length later.trees) × (loose (tree_at later x) ≡ 0)) values new_value (closed_steady all values p.values_in)
          (grown m.grows new_value m.made_value.known, ap loose late ∙ none));
      inside_in = grown all body m.is_let.body_in;
      pushes = rw (heads_then, body_then) (pushes_last (tree_at began e) (map (tree_at now) heads) A V B pushes);
    }

-- how many lets stand at the head
abbrev pub lets_in : Tree → ℕ
lets_in (let_in A v b) = suc (lets_in b)
lets_in _ = 0

last_of : (P : ℕ → Type 0) (xs : List ℕ) (x : ℕ) → All P (xs ++ x ∷ []) → P x
last_of P [] x h = All-head P x [] h
last_of P (y ∷ xs) x h = last_of P xs x (All-tail P y (xs ++ x ∷ []) h)

-- the last of the heads, with a let made of it
pub lets_step : {began now later : Contents} → Extends began now → (left others : List ℕ) (x e r : ℕ) → left ≡ others ++ x ∷ []
    → All (λ y. y < length began.trees) left → IsTree later r (let_over (tree_at now x) (tree_at now e))
    → lets_over (map (tree_at began) others) (tree_at later r) ≡ lets_over (map (tree_at began) left) (tree_at now e)
lets_step {began} {now} {later} grows left others x e r is known made =
    let P : ℕ → Type 0 = λ y. y < length began.trees in
    let same = grows.trees.same x (last_of P others x (rw is at known)) in
    ap (lets_over (map (tree_at began) others)) (made.is ∙ ap (λ t. let_over t (tree_at now e)) same)
    ∙ (sym (lets_last (map (tree_at began) others) (tree_at began x) (tree_at now e))
    ∙ ap (λ l. lets_over l (tree_at now e)) (sym (ap (map (tree_at began)) is ∙ map-append (tree_at began) others (x ∷ []))))

-- at first there is no let
pub pushing_start : {now : Contents} {e : ℕ} {heads values : List ℕ} → heads ≡ [] → values ≡ [] → e < length now.trees → IsPushing now now e heads values e
pushing_start {now} {e} no_heads no_values l = record {
  heads_in = rw no_heads (λ k d l. absurd (omega arith));
  values_in = rw no_values (λ k d l. absurd (omega arith));
  inside_in = l;
  pushes = rw (no_heads, no_values) (sym (put_nothing 0 (tree_at now e)));
}

pub met_grows : {now one two later : Contents} {values : List ℕ} {inside ty value body new_ty new_value head : ℕ}
    → IsMet now one two later values inside ty value body new_ty new_value head → Extends now later
met_grows {now} {one} {two} {later} m = Extends-trans now one later m.grows_one (Extends-trans one two later m.grows_two m.grows)

-- at the end the lets are made over what stands inside them
pub pushing_ends : {began now one : Contents} (later : Contents) {e inside end : ℕ} {heads values : List ℕ} (r : Result ℕ NoMemory) → loose (tree_at began e) ≡ 0
    → IsPushing began now e heads values inside → Extends now one → IsTree one end (put (map (tree_at now) values) (tree_at now inside))
    → IfOk r (λ x. IsTree later x (lets_over (map (tree_at one) heads) (tree_at one end)))
    → IfOk r (λ x. (w : Place) → IsAlike w (infer_steps (tree_at later x)) (infer_steps (tree_at began e)))
pushing_ends later (Err error) z p grows made over = tt
pushing_ends {began} {now} {one} later {e} {inside} {end} {heads} {values} (Ok x) z p grows made over = λ w.
    let same : tree_at later x ≡ lets_over (map (tree_at now) heads) (put (map (tree_at now) values) (tree_at now inside)) =
    over.is ∙ (ap (λ l. lets_over l (tree_at one end)) (trees-steady now one heads grows p.heads_in) ∙ ap (lets_over (map (tree_at now) heads)) made.is) in
    rw same (pushed_alike w (tree_at began e) (map (tree_at now) heads) (put (map (tree_at now) values) (tree_at now inside)) z p.pushes)
