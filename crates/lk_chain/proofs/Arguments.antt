-- Types that have the arguments of what they are the types of.
use Rattle.std.proofs.Common.{◌≡◌, ◌<◌, ℕ, List, [], ◌∷◌, ◌++◌, length, map, Option, Some, None, refl, ap, sym, ◌∙◌, append_assoc, arith}
use Rattle.std.specs.Prelude.{All, Result, Ok, Err, IfOk}
use Rattle.std.proofs.lemmas.List.Elements.{All-head, All-tail, All-cons, All-push}
use Rattle.std.proofs.lemmas.List.{map-append}
use Rattle.lk_tree.specs.Tree.{Name, Level, Tree, var, sort, const, app, lam, pi, let_in, proj, lit, wide, str, local}
use Rattle.lk_tree.specs.Bind.{opened}
use Rattle.lk_tree.specs.Levels.{put_levels}
use Rattle.lk_tree.specs.Loose.{loose}
use Rattle.lk_tree.specs.Putting.{put, put_at}
use Rattle.lk_tree.specs.Spine.{apply, head, args}
use Rattle.lk_tree.specs.declared.rule.Rule.TheVariants.{UnknownConstant, LevelCount}
use Rattle.lk_tree.proofs.Puttings.{put_nothing}
use Rattle.lk_tree.proofs.Within.{apply_head_args}
use Rattle.lk_rulebook.specs.Place.{Place}
use Rattle.lk_rulebook.specs.Place.{Entry as PlainEntry}
use Rattle.lk_questions.specs.Answer.{later}
use Rattle.lk_questions.specs.Program.{done}
use Rattle.lk_questions.specs.Query.{infer}
use Rattle.lk_questions.specs.Erased.{a_tree, erased, finished, seen, run_steps, out_of}
use Rattle.lk_questions.proofs.Erasing.{out-suc}
use Rattle.lk_questions.specs.Infer.{infer_steps}
use Rattle.lk_questions.specs.Steps.{given, with_levels}
use Rattle.lk_questions.specs.Table.{steps}
use Rattle.lk_store.specs.Contents.{Contents, name_at, list_at, tree_at, Extends, IsTree}
use Rattle.lk_store.specs.declared.memory.NoMemory.{NoMemory}
use Rattle.lk_store.specs.Store.{contents_of}
use Rattle.lk_store.proofs.Extending.{Extends-trans}
use Rattle.lk_subst.specs.Numbers.{trees-steady, trees-known}
use Rattle.lk_env.specs.declared.entry.Entry.{Entry}
use Rattle.lk_env.specs.Entries.{plain_entry, IsEntryIn, IsMeaning}
use Rattle.lk_env.specs.StoredLibrary.{StoredLibrary}
use Rattle.lk_ask.specs.Constants.{IsAtLevels}
use Rattle.lk_ask.proofs.Entries.{entry_type}
use Rattle.lk_ask.proofs.Looking.{found_is, found_goes}
use Rattle.lk_ask.proofs.Sheets.{grown}
use Rattle.lk_spine.specs.Reading.{AreTrees}
use Rattle.lk_chain.specs.Lets.{AreClosed}
use Rattle.lk_chain.specs.Pis.{pis_over}
use Rattle.lk_chain.specs.Spines.{IsPi, OpensWith, unit_of, IsMeant, HasTypeAtOnce, IsTypeOf, IsPushed}
use Rattle.lk_chain.proofs.Closed.{closed_known, none_loose, front_of_append}
use Rattle.lk_chain.proofs.Puttings.{NoneLoose, put_last}
use Rattle.lk_chain.proofs.Retyped.{spine_beside, rows_beside}

-- the type of a Local
pub local_at_once : (w : Place) (k : ℕ) (T : Tree) → HasTypeAtOnce w None (local k T) T
local_at_once w k T b = out-suc steps w (infer (local k T)) b

-- the type of a constant at its levels
module _ (l : StoredLibrary) (w : Place) (x : Name) (e : Entry) (ls : List Level) where
  pub constant_at_once : (m : IsMeaning (contents_of l.tables) l.units w x e) (c : Contents) (t : Tree)
      (T : ℕ) → t ≡ tree_at (contents_of l.tables) e.stated
      → let h = found_is l w x None (Some e.origin) e m refl in
      IsAtLevels c h.entry.levels ls t (Some T)
      → HasTypeAtOnce w (Some (w.origin x)) (const x ls) (tree_at c T)
  constant_at_once m c t T is_t at b =
      let h = found_is l w x None (Some e.origin) e m refl in
      let goes = found_goes w a_tree x UnknownConstant (λ g. with_levels g ls g.type) l None
      (Some e.origin) e h in
      let type_is : h.entry.type ≡ t = entry_type (contents_of l.tables) l.units e h.entry h.is ∙ sym is_t in
      out-suc steps w (infer (const x ls)) b
      ∙ (ap (λ s. run_steps (out_of steps w) s b) goes
      ∙ (ap (λ q. run_steps (out_of steps w) (erased w a_tree (Some e.origin) (given q LevelCount
      (done (put_levels h.entry.levels ls h.entry.type)))) b) at.0
      ∙ (ap (λ y. finished (a_tree y) b (Some e.origin)) (ap (put_levels h.entry.levels ls) type_is
      ∙ sym at.1.is)
      ∙ ap (finished (a_tree (tree_at c T)) b) h.looked)))

-- what was found of a constant
pub constant_typed : (l : StoredLibrary) (w : Place) {now later : Contents}
    (name levels e ty : ℕ) (entry : Entry) → Extends now later → Extends (contents_of l.tables) now
    → name < length now.names → tree_at now e ≡ const (name_at now name) (list_at now levels)
    → IsEntryIn (contents_of l.tables) entry → IsMeaning (contents_of l.tables) l.units w (name_at now name) entry
    → ty < length later.trees
    → ((g : PlainEntry) → plain_entry (contents_of l.tables) l.units entry ≡ Some g → IsAtLevels later
    g.levels (list_at now levels) (tree_at now entry.stated) (Some ty))
    → IsTypeOf w later (tree_at now e) (ty, Some name)
constant_typed l w {now} {later} name levels e ty entry grows over name_in is known m ty_in at =
    let x = name_at now name in
    let h = found_is l w x None (Some entry.origin) entry m refl in
    let longer = grows.names.longer in
    let same : name_at later name ≡ x = grows.names.same name name_in in
    record {
      known = ty_in;
      meant = ((omega (arith, longer, name_in)), rw same m.given);
      has = rw (same, is) (constant_at_once l w x entry (list_at now levels) m later
          (tree_at now entry.stated) ty (over.trees.same entry.stated known.stated_in)
          (at h.entry h.is));
    }

-- what a name means stays
pub meant_steady : (w : Place) {c d : Contents} → Extends c d → (constant : Option ℕ)
    → IsMeant w c constant → IsMeant w d constant
meant_steady w x None h = tt
meant_steady w {c} {d} x (Some name) h =
    let longer = x.names.longer in
    let known = h.0 in
    let same : name_at d name ≡ name_at c name = x.names.same name h.0 in
    (omega (arith, longer, known), rw same h.1)

pub unit_steady : (w : Place) {c d : Contents} → Extends c d → (constant : Option ℕ)
    → IsMeant w c constant → unit_of w d constant ≡ unit_of w c constant
unit_steady w x None h = refl
unit_steady w x (Some name) h = ap (λ y. Some (w.origin y)) (x.names.same name h.0)

-- one argument more
opens_last : (T : Tree) (xs Ds : List Tree) (A B a : Tree) → OpensWith T xs Ds (pi A B)
    → OpensWith T (xs ++ a ∷ []) (Ds ++ A ∷ []) (opened B a)
opens_last T [] [] A B a p = (B, p, refl)
opens_last T (x ∷ xs) (X ∷ Ds) A B a (C, is, p) = (C, is, opens_last (opened C x) xs Ds A B a p)
opens_last T [] (X ∷ Ds) A B a p = absurd p
opens_last T (x ∷ xs) [] A B a p = absurd p

put_pi : (vs : List Tree) (A B : Tree) → put vs (pi A B) ≡ pi (put vs A) (put_at vs 1 B)
unfolding put_at
put_pi vs A B = refl

-- the domains so far, with the arguments that were put, and what stands inside them
pub record IsGiven (began now : Contents) (ty : ℕ) (arguments left domains values : List ℕ)
    (inside : ℕ) : Type 0 where
  pub split : arguments ≡ values ++ left
  pub domains_in : All (λ x. x < length now.trees) domains
  pub values_in : All (λ x. x < length now.trees) values
  pub inside_in : inside < length now.trees
  pub opens : OpensWith (tree_at began ty) (map (tree_at began) values) (map (tree_at now) domains)
      (put (map (tree_at began) values) (tree_at now inside))

pub given_start : {now : Contents} {ty : ℕ} {arguments domains values : List ℕ} → domains ≡ []
    → values ≡ [] → ty < length now.trees → IsGiven now now ty arguments arguments domains values ty
given_start {now} {ty} no_domains no_values l = record {
  split = rw no_values refl;
  domains_in = rw no_domains (λ k d l. absurd (omega arith));
  values_in = rw no_values (λ k d l. absurd (omega arith));
  inside_in = l;
  opens = rw (no_domains, no_values) (sym (put_nothing 0 (tree_at now ty)));
}

-- the arguments that were put are closed
pub values_closed : (began : Contents) {arguments : List ℕ} (values left : List ℕ)
    → AreClosed began arguments → arguments ≡ values ++ left → AreClosed began values
values_closed began values left h is =
    front_of_append (λ x. (x < length began.trees) × (loose (tree_at began x) ≡ 0)) values left
    (rw is at h)

-- a Pi was met, and its domain was made
pub record IsNextPi (now later : Contents) (values : List ℕ) (inside domain body made : ℕ) : Type 0
  where
    pub is_pi : IsPi now inside (domain, body)
    pub grows : Extends now later
    pub domain_made : IsTree later made (put (map (tree_at now) values) (tree_at now domain))

pub given_on : {began now later : Contents} {ty inside domain body made argument : ℕ}
    {arguments left others domains values more more_values : List ℕ}
    → AreClosed began arguments → Extends began now → IsGiven began now ty arguments left domains
    values inside → IsNextPi now later values inside domain body made
    → left ≡ argument ∷ others → more ≡ domains ++ made ∷ [] → more_values ≡ values ++ argument ∷ []
    → IsGiven began later ty arguments others more more_values body
given_on {began} {now} {later} {ty} {inside} {domain} {body} {made} {argument} {arguments} {left}
    {others} {domains} {values} {more} {more_values} closed before g n taken pushed pushed_values =
    let vs = map (tree_at began) values in
    let P : ℕ → Type 0 = λ x. (x < length began.trees) × (loose (tree_at began x) ≡ 0) in
    let split : arguments ≡ (values ++ argument ∷ []) ++ others = g.split
    ∙ (ap (λ (l : List ℕ). values ++ l) taken ∙ sym (append_assoc values (argument ∷ [])
    others)) in
    let these : AreClosed began (values ++ argument ∷ []) =
    values_closed began (values ++ argument ∷ []) others closed split in
    let those : AreClosed began values = values_closed began values left closed g.split in
    let known = closed_known began values those in
    let A = put vs (tree_at now domain) in
    let B = put_at vs 1 (tree_at now body) in
    let a = tree_at began argument in
    let none : NoneLoose (vs ++ a ∷ []) = rw (map-append (tree_at began) values (argument ∷ [])) at
    (none_loose began (values ++ argument ∷ []) these) in
    let steady : map (tree_at now) values ≡ vs = trees-steady began now values before known in
    let made_is : tree_at later made ≡ A = n.domain_made.is
    ∙ ap (λ l. put l (tree_at now domain)) steady in
    let here : put vs (tree_at now inside) ≡ pi A B = ap (put vs) n.is_pi.is
    ∙ put_pi vs (tree_at now domain) (tree_at now body) in
    let opens : OpensWith (tree_at began ty) vs (map (tree_at now) domains) (pi A B) =
    rw here at g.opens in
    let domains_then : map (tree_at later) more ≡ map (tree_at now) domains ++ A ∷ [] =
    ap (map (tree_at later)) pushed ∙ (map-append (tree_at later) domains (made ∷ [])
    ∙ (ap (λ l. l ++ tree_at later made ∷ []) (trees-steady now later domains n.grows g.domains_in)
    ∙ ap (λ t. map (tree_at now) domains ++ t ∷ []) made_is)) in
    let values_then : map (tree_at began) more_values ≡ vs ++ a ∷ [] =
    ap (map (tree_at began)) pushed_values
    ∙ map-append (tree_at began) values (argument ∷ []) in
    let body_then : put (vs ++ a ∷ []) (tree_at later body) ≡ opened B a =
    ap (put (vs ++ a ∷ [])) (n.grows.trees.same body n.is_pi.body_in)
    ∙ sym (put_last vs a 0 (tree_at now body) (none_loose began values those) (last_loose vs a
    none)) in
    record {
      split = rw pushed_values split;
      domains_in = rw pushed (All-push (λ x. x < length later.trees) domains made (trees-known now
          later domains n.grows g.domains_in) n.domain_made.known);
      values_in = rw pushed_values (trees-known began later (values ++ argument ∷ []) (Extends-trans
          began now later before n.grows)
          (closed_known began (values ++ argument ∷ []) these));
      inside_in = grown n.grows body n.is_pi.body_in;
      opens = rw (domains_then, values_then, body_then) (opens_last (tree_at began ty) vs
          (map (tree_at now) domains) A B a opens);
    }
  where
    last_loose : (xs : List Tree) (x : Tree) → NoneLoose (xs ++ x ∷ []) → loose x ≡ 0
    last_loose [] x h = All-head (λ t. loose t ≡ 0) x [] h
    last_loose (y ∷ xs) x h = last_loose xs x (All-tail (λ t. loose t ≡ 0) y (xs ++ x ∷ []) h)

-- at the end the Pis are made over what stands inside them
pub given_ends : {began now : Contents} (later : Contents) {ty inside : ℕ} {arguments left domains
    values : List ℕ} (r : Result ℕ NoMemory) → AreClosed began arguments → Extends began now
    → IsGiven began now ty arguments left domains values inside
    → IfOk r (λ x. IsTree later x (pis_over (map (tree_at now) domains)
    (put (map (tree_at now) values) (tree_at now inside))))
    → IfOk r (IsPushed began later ty arguments)
given_ends later (Err error) closed before g made = tt
given_ends {began} {now} later {ty} {inside} {arguments} {left} {domains} {values} (Ok x) closed
    before g made =
    let known = closed_known began values (values_closed began values left closed g.split) in
    record {
      values = map (tree_at began) values;
      more = map (tree_at began) left;
      domains = map (tree_at now) domains;
      inside = put (map (tree_at began) values) (tree_at now inside);
      are = ap (map (tree_at began)) g.split ∙ map-append (tree_at began) values left;
      opens = g.opens;
      known = made.known;
      is = made.is ∙ ap (λ l. pis_over (map (tree_at now) domains) (put l (tree_at now inside)))
          (trees-steady began now values before known);
    }

-- Pis over what stands inside, which got its values before
pub pis_end : {now one : Contents} (later : Contents) (inside end : ℕ) (domains values : List ℕ)
    (r : Result ℕ NoMemory) → Extends now one → All (λ x. x < length now.trees) domains
    → IsTree one end (put (map (tree_at now) values) (tree_at now inside))
    → IfOk r (λ x. IsTree later x (pis_over (map (tree_at one) domains) (tree_at one end)))
    → IfOk r (λ x. IsTree later x (pis_over (map (tree_at now) domains)
    (put (map (tree_at now) values) (tree_at now inside))))
pis_end later inside end domains values (Err error) grows known made over = tt
pis_end {now} {one} later inside end domains values (Ok x) grows known made over = record {
  known = over.known;
  is = over.is ∙ (ap (λ l. pis_over l (tree_at one end)) (trees-steady now one domains grows known)
      ∙ ap (pis_over (map (tree_at now) domains)) made.is);
}

-- the arguments of what is closed are closed
args_loose : (e : Tree) → loose e ≡ 0 → NoneLoose (args e)
unfolding args
args_loose (app f a) z = All-push (λ t. loose t ≡ 0) (args f) a (args_loose f (omega (arith, z)))
    (omega (arith, z))
args_loose (var i) z = λ k d l. absurd (omega arith)
args_loose (sort l) z = λ k d l. absurd (omega arith)
args_loose (const c ls) z = λ k d l. absurd (omega arith)
args_loose (lam A b) z = λ k d l. absurd (omega arith)
args_loose (pi A b) z = λ k d l. absurd (omega arith)
args_loose (let_in A v b) z = λ k d l. absurd (omega arith)
args_loose (proj S i s) z = λ k d l. absurd (omega arith)
args_loose (lit n) z = λ k d l. absurd (omega arith)
args_loose wide z = λ k d l. absurd (omega arith)
args_loose (str s) z = λ k d l. absurd (omega arith)
args_loose (local k T) z = λ k d l. absurd (omega arith)

both_closed : (c : Contents) (xs : List ℕ) → All (λ x. x < length c.trees) xs
    → NoneLoose (map (tree_at c) xs) → AreClosed c xs
both_closed c [] h n = λ k d l. absurd (omega arith)
both_closed c (x ∷ xs) h n =
    let K : ℕ → Type 0 = λ y. y < length c.trees in
    let N : Tree → Type 0 = λ t. loose t ≡ 0 in
    All-cons (λ y. (y < length c.trees) × (loose (tree_at c y) ≡ 0)) x xs
    (All-head K x xs h, All-head N (tree_at c x) (map (tree_at c) xs) n)
    (both_closed c xs (All-tail K x xs h) (All-tail N (tree_at c x) (map (tree_at c) xs) n))

pub arguments_closed : (c : Contents) (e : Tree) (xs : List ℕ) → loose e ≡ 0
    → AreTrees c xs (args e) → AreClosed c xs
arguments_closed c e xs z h = both_closed c xs h.known (rw h.are (args_loose e z))

front_loose : (xs ys : List Tree) → NoneLoose (xs ++ ys) → NoneLoose xs
front_loose [] ys h = λ k d l. absurd (omega arith)
front_loose (x ∷ xs) ys h =
    let P : Tree → Type 0 = λ t. loose t ≡ 0 in
    All-cons P x xs (All-head P x (xs ++ ys) h) (front_loose xs ys (All-tail P x (xs ++ ys) h))

-- the Local that has the pushed type, at the arguments, runs as the term does
pub pushed_runs : (w : Place) (began now : Contents) (ty local_type : ℕ) (e T : Tree) (xs : List ℕ)
    (unit before : Option ℕ) (k : ℕ)
    → HasTypeAtOnce w unit (head e) (tree_at began ty) → loose (tree_at began ty) ≡ 0 → loose e ≡ 0
    → AreTrees began xs (args e) → IsPushed began now ty xs local_type
    → T ≡ apply (local k (tree_at now local_type)) (args e)
    → (b : ℕ) → run_steps (out_of steps w) (erased w a_tree (later before unit) (infer_steps T)) b
    ≡ run_steps (out_of steps w) (erased w a_tree before (infer_steps e)) b
pushed_runs w began now ty local_type e T xs unit before k has none z are p is =
    rows_beside w unit before e T comes
  where
    all : args e ≡ p.values ++ p.more
    all = sym are.are ∙ p.are

    closed : NoneLoose p.values
    closed = front_loose p.values p.more (rw all at (args_loose e z))

    comes : (b : ℕ) → out_of steps w (infer e) b ≡ seen unit (out_of steps w (infer T) b)
    comes b =
        ap (λ t. out_of steps w (infer t) b) (sym (apply_head_args e) ∙ ap (apply (head e)) all)
        ∙ (spine_beside w unit (tree_at began ty) p.values p.domains p.more p.inside (head e) k has
        none closed p.opens b
        ∙ ap (λ t. seen unit (out_of steps w (infer t) b))
        (sym (is ∙ (ap (λ U. apply (local k U) (args e)) p.is
        ∙ ap (apply (local k (pis_over p.domains p.inside))) all))))

-- the same of their numbers
pub spine_runs : (w : Place) {one two three began now : Contents} (e function ty local_type stand_in
    spine : ℕ) (constant : Option ℕ) (arguments : List ℕ) (before : Option ℕ)
    → e < length began.trees → loose (tree_at began e) ≡ 0 → Extends began one → Extends one two
    → Extends two three
    → IsTree began function (head (tree_at began e))
    → IsTypeOf w one (tree_at began function) (ty, constant) → loose (tree_at one ty) ≡ 0
    → AreTrees one arguments (args (tree_at one e)) → IsPushed one two ty arguments local_type
    → IsTree three stand_in (local 0 (tree_at two local_type))
    → IsTree now spine (apply (tree_at three stand_in) (map (tree_at three) arguments))
    → (b : ℕ) → run_steps (out_of steps w) (erased w a_tree (later before (unit_of w one constant))
    (infer_steps (tree_at now spine))) b
    ≡ run_steps (out_of steps w) (erased w a_tree before (infer_steps (tree_at began e))) b
spine_runs w {one} {two} {three} {began} {now} e function ty local_type stand_in spine constant
    arguments before e_in z first second third is_head typed none are pushed is_local is_spine b =
    let same : tree_at one e ≡ tree_at began e = first.trees.same e e_in in
    let has : HasTypeAtOnce w (unit_of w one constant) (head (tree_at one e)) (tree_at one ty) =
    rw (same, sym is_head.is) typed.has in
    let is : tree_at now spine ≡ apply (local 0 (tree_at two local_type)) (args (tree_at one e)) =
    is_spine.is ∙ (ap (apply (tree_at three stand_in)) (trees-steady one three arguments
    (Extends-trans one two three second third) are.known ∙ are.are)
    ∙ ap (λ t. apply t (args (tree_at one e))) is_local.is) in
    pushed_runs w one two ty local_type (tree_at one e) (tree_at now spine) arguments (unit_of w one
    constant) before 0 has none (rw same z) are pushed is b
    ∙ ap (λ t. run_steps (out_of steps w) (erased w a_tree before (infer_steps t)) b) same
