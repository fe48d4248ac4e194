-- The types of a block, one after another.
use Rattle.std.proofs.Common.{◌≡◌, ◌<◌, ℕ, Bool, true, false, List, [], ◌∷◌, ◌++◌, length, map, All, Ok, Err, Result, refl, sym, ap, subst, ◌∙◌, append_assoc}
use Rattle.std.proofs.lemmas.List.{append-nil, map-append}
use Rattle.std.proofs.lemmas.List.Elements.{All-head, All-tail, All-weaker}
use Rattle.std.specs.Prelude.{Vec}
use Rattle.std.specs.declared.alloc.Global.{Global}
use Rattle.lk_tree.specs.Tree.{Tree, Level}
use Rattle.lk_tree.specs.LevelTest.{level_test}
use Rattle.lk_tree.specs.declared.rule.Rule.TheVariants.{BlockShape}
use Rattle.lk_rulebook.specs.Place.{Place, BlockType}
use Rattle.lk_questions.specs.Query.{Query}
use Rattle.lk_questions.specs.Program.{Program, done, ◌>>=◌}
use Rattle.lk_questions.specs.Erased.{Out, out_of}
use Rattle.lk_questions.specs.Steps.{given, sort_of}
use Rattle.lk_questions.specs.Levels.{tested}
use Rattle.lk_inductive.specs.BlockSteps.{TypeParts as PlainParts, telescope, type_end, next_type, next_types, types_steps}
use Rattle.lk_store.specs.Contents.{Contents, level_at, tree_at, Extends}
use Rattle.lk_env.specs.declared.unit.BlockType.{BlockType as StoredType}
use Rattle.lk_env.specs.Units.{type_at, IsTypeIn}
use Rattle.lk_subst.specs.Numbers.{trees-steady, trees-known}
use Rattle.lk_ask.specs.declared.stop.Stop.{Stop}
use Rattle.lk_ask.specs.declared.stop.Stop.TheVariants.{No, Spent, NoMemory}
use Rattle.lk_ask.specs.Asking.{Standing}
use Rattle.lk_block.specs.declared.types.TypeParts.{TypeParts}
use Rattle.lk_declaration.specs.Courses.{run_then, Passes, Goes, Halts, ComesTo, Refuses}
use Rattle.lk_block.specs.Forms.{next_form}
use Rattle.lk_block.specs.Parts.{lists_at, AreListsIn, parts_at, more_form, self_form, first_parts, open_form, first_form, others_form}
use Rattle.lk_declaration.proofs.Running.{run_same, run_bind, bind_same, passes_same, passes_on, stop_passes, stop_same, gives_on, settles_on, halts_first, halts_later, goes_on, ends_at}

pub lists-steady : (c d : Contents) (xs : List (Vec ℕ Global)) → Extends c d → AreListsIn c xs → lists_at d xs ≡ lists_at c xs
lists-steady c d [] x h = refl
lists-steady c d (ys ∷ xs) x h =
    let K : Vec ℕ Global → Type 0 = λ v. All (λ i. i < length c.trees) v.items in
    ap (λ ts. ts ∷ lists_at d xs) (trees-steady c d ys.items x (All-head K ys xs h)) ∙ ap (λ us. map (tree_at c) ys.items ∷ us) (lists-steady c d xs x (All-tail K ys xs h))

pub lists-known : (c d : Contents) (xs : List (Vec ℕ Global)) → Extends c d → AreListsIn c xs → AreListsIn d xs
lists-known c d xs x h = All-weaker (λ v. All (λ i. i < length c.trees) v.items) (λ v. All (λ i. i < length d.trees) v.items) (λ v all. trees-known c d v.items x all) xs h

-- one list more
pub lists-push : (c d : Contents) (xs : List (Vec ℕ Global)) (own : Vec ℕ Global) → Extends c d → AreListsIn c xs → lists_at d (xs ++ own ∷ []) ≡ lists_at c xs ++ map (tree_at d) own.items ∷ []
lists-push c d xs own x h =
    map-append (λ (ys : Vec ℕ Global). map (tree_at d) ys.items) xs (own ∷ []) ∙ ap (λ ts. ts ++ map (tree_at d) own.items ∷ []) (lists-steady c d xs x h)

pub form_kept : (ps' ps : List Tree) (l' l : Level) (n : ℕ) (T' T : Tree) → ps' ≡ ps → l' ≡ l → T' ≡ T → next_form ps' l' n T' ≡ next_form ps l n T
form_kept ps' ps l' l n T' T e f g = ap (λ q. next_form q l' n T') e ∙ ap (λ q. next_form ps q n T') f ∙ ap (λ q. next_form ps l n q) g

module _ {Base : Type 0} (t : Standing Base) (j n : ℕ) (r : Tree) (b : ℕ) (m : Level) (qs : List Tree) (c : ℕ) where
  pub self_goes : (equal : Bool) → Goes t (type_end j n r) b (qs, m) c → tested (level_test m m) ≡ done equal → equal ≡ true → Goes t (self_form j n r) b (qs, m) c
  self_goes equal first e agrees =
      settles_on t (type_end j n r) (λ e. tested (level_test e.1 e.1) >>= λ equal. given equal BlockShape (done e)) b c (qs, m) (λ (q : List Tree × Level). q) (Ok (qs, m)) first
      (ap (λ p. p >>= λ equal. given equal BlockShape (done (qs, m))) e ∙ ap (λ q. given q BlockShape (done (qs, m))) agrees)

  pub self_differs : (equal : Bool) → Goes t (type_end j n r) b (qs, m) c → tested (level_test m m) ≡ done equal → equal ≡ false → Halts t (self_form j n r) b (No BlockShape)
  self_differs equal first e differs =
      settles_on t (type_end j n r) (λ e. tested (level_test e.1 e.1) >>= λ equal. given equal BlockShape (done e)) b c (qs, m) (λ (q : List Tree × Level). q) (Err (No BlockShape)) first
      (ap (λ p. p >>= λ equal. given equal BlockShape (done (qs, m))) e ∙ ap (λ q. given q BlockShape (done (qs, m))) differs)

  pub self_stops : (stop : Stop) → Goes t (type_end j n r) b (qs, m) c → Refuses (tested (level_test m m)) stop → Halts t (self_form j n r) b stop
  self_stops stop first e = settles_on t (type_end j n r) (λ e. tested (level_test e.1 e.1) >>= λ equal. given equal BlockShape (done e)) b c (qs, m) (λ (q : List Tree × Level). q) (Err stop) first (go stop e)
    where
      go : (s : Stop) → Refuses (tested (level_test m m)) s → Refuses {A = List Tree × Level} (tested (level_test m m) >>= λ equal. given equal BlockShape (done (qs, m))) s
      go (No q) h = ap (λ p. p >>= λ equal. given equal BlockShape (done (qs, m))) h
      go Spent h = absurd h
      go NoMemory h = tt

module _ (answer : Query → ℕ → Out) (w : Place) where
  -- one type, and then the others
  pub more_one : (is : List (List Tree)) (ps : List Tree) (l : Level) (t : BlockType) (ts : List BlockType) (b : ℕ) (k : List (List Tree) → ℕ → Out)
      → run_then answer w (more_form is ps l (t ∷ ts)) b k ≡ run_then answer w (next_type ps l t) b (λ x left. run_then answer w (more_form (is ++ x ∷ []) ps l ts) left k)
  more_one is ps l t ts b k =
      let others : List Tree → Program (List (List Tree)) = λ x. next_types ps l ts >>= λ xs. done (x ∷ xs) in
      run_bind answer w (next_types ps l (t ∷ ts)) (λ xs. done (is ++ xs)) b k
      ∙ run_bind answer w (next_type ps l t) others b (λ xs left. k (is ++ xs) left)
      ∙ run_same answer w (next_type ps l t) b (λ x left. run_then answer w (others x) left (λ xs rest. k (is ++ xs) rest)) (λ x left. run_then answer w (more_form (is ++ x ∷ []) ps l ts) left k)
      (λ x left. run_bind answer w (next_types ps l ts) (λ xs. done (x ∷ xs)) left (λ xs rest. k (is ++ xs) rest)
      ∙ run_same answer w (next_types ps l ts) left (λ xs rest. k (is ++ x ∷ xs) rest) (λ xs rest. k ((is ++ x ∷ []) ++ xs) rest) (λ xs rest. ap (λ ys. k ys rest) (sym (append_assoc is (x ∷ []) xs)))
      ∙ sym (run_bind answer w (next_types ps l ts) (λ xs. done ((is ++ x ∷ []) ++ xs)) left k))

  -- all types, and the first one with the others after it
  pub types_run : (p : ℕ) (t : BlockType) (ts : List BlockType) (b : ℕ) (k : PlainParts → ℕ → Out) → run_then answer w (types_steps p (t ∷ ts)) b k ≡ run_then answer w (first_form p t.indices t.type >>= λ f. others_form f ts) b k
  types_run p t ts b k =
      let after : PlainParts → ℕ → Out = λ f left. run_then answer w (others_form f ts) left k in
      let rest : List Tree → List Tree × Level → Bool → Program PlainParts = λ ps e equal. given equal BlockShape (next_types ps e.1 ts) >>= λ xs. done (record { params = ps; sort = e.1; indices = e.0 ∷ xs }) in
      let end : List Tree → List Tree × Level → Program PlainParts = λ ps e. tested (level_test e.1 e.1) >>= rest ps e in
      let own : List Tree × Level → Bool → Program (List Tree × Level) = λ e equal. given equal BlockShape (done e) in
      bind_same answer w (sort_of t.type) (λ s. telescope 0 p t.type >>= λ ps. type_end p t.indices ps.1 >>= end ps.0) (λ s. open_form p t.indices t.type) b k after
      (λ s left. bind_same answer w (telescope 0 p t.type) (λ ps. type_end p t.indices ps.1 >>= end ps.0) (λ ps. self_form p t.indices ps.1 >>= λ e. done (first_parts ps.0 e)) left k after
      (λ ps left. bind_same answer w (type_end p t.indices ps.1) (end ps.0) (λ e. tested (level_test e.1 e.1) >>= own e) left k (λ e l. after (first_parts ps.0 e) l)
      (λ e left. bind_same answer w (tested (level_test e.1 e.1)) (rest ps.0 e) (own e) left k (λ e l. after (first_parts ps.0 e) l) (λ equal left. last ps.0 e left equal))
      ∙ sym (run_bind answer w (self_form p t.indices ps.1) (λ e. done (first_parts ps.0 e)) left after)))
      ∙ sym (run_bind answer w (first_form p t.indices t.type) (λ f. others_form f ts) b k)
    where
      last : (ps : List Tree) (e : List Tree × Level) (left : ℕ) (equal : Bool) → run_then answer w (given equal BlockShape (next_types ps e.1 ts) >>= λ xs. done (record { params = ps; sort = e.1; indices = e.0 ∷ xs })) left k
          ≡ run_then answer w (given equal BlockShape (done e)) left (λ e l. run_then answer w (others_form (first_parts ps e) ts) l k)
      last ps e left true =
          run_bind answer w (next_types ps e.1 ts) (λ xs. done (record { params = ps; sort = e.1; indices = e.0 ∷ xs })) left k
          ∙ sym (run_bind answer w (more_form (e.0 ∷ []) ps e.1 ts) (λ xs. done (record { params = ps; sort = e.1; indices = xs })) left k
          ∙ run_bind answer w (next_types ps e.1 ts) (λ xs. done ((e.0 ∷ []) ++ xs)) left (λ xs l. k (record { params = ps; sort = e.1; indices = xs }) l))
      last ps e left false = refl

-- whatever comes next, the one is the other
pub record LeadsTypes {Base : Type 0} (t : Standing Base) (ps : List Tree) (l : Level) (is : List (List Tree)) (ts : List BlockType) (b : ℕ) (js : List (List Tree)) (us : List BlockType) (c : ℕ) : Type 0 where
  pub on : (k : List (List Tree) → ℕ → Out) → Passes (run_then (out_of t.table t.place) t.place (more_form is ps l ts) b k) (run_then (out_of t.table t.place) t.place (more_form js ps l us) c k)

module _ {Base : Type 0} (t u : Standing Base) (stays : u ≡ t) (ps ps' : List Tree) (l l' : Level) (is : List (List Tree)) (ts : List BlockType) (b : ℕ) (js : List (List Tree)) (us : List BlockType) (c : ℕ)
    (so_far : LeadsTypes t ps l is ts b js us c) where
  pub types_next : (p p' : Program (List Tree)) (T : BlockType) (others : List BlockType) (own : List Tree) (more : List (List Tree)) (d : ℕ) → us ≡ T ∷ others → next_type ps l T ≡ p → p' ≡ p → more ≡ js ++ own ∷ [] → Goes u p' c own d
      → LeadsTypes t ps l is ts b more others d
  types_next p p' T others own more d one is_p moved_p push goes =
      let here : Goes t (next_type ps l T) c own d = subst (λ q. Goes t q c own d) (moved_p ∙ sym is_p) (subst (λ y. Goes y p' c own d) stays goes) in
      record {
        on = λ k.
            passes_on _ _ _ (so_far.on k)
            (passes_on _ _ _ (passes_same _ _ (ap (λ y. run_then (out_of t.table t.place) t.place (more_form js ps l y) c k) one ∙ more_one (out_of t.table t.place) t.place js ps l T others c k))
            (passes_on _ _ _ (here.on (λ y left. run_then (out_of t.table t.place) t.place (more_form (js ++ y ∷ []) ps l others) left k))
            (passes_same _ _ (ap (λ y. run_then (out_of t.table t.place) t.place (more_form y ps l others) d k) (sym push)))));
      }

  pub types_halt : (p p' : Program (List Tree)) (T : BlockType) (others : List BlockType) (stop : Stop) → us ≡ T ∷ others → next_type ps l T ≡ p → p' ≡ p → Halts u p' c stop → Halts t (more_form is ps l ts) b stop
  types_halt p p' T others stop one is_p moved_p halts =
      let here : Halts t (next_type ps l T) c stop = subst (λ q. Halts t q c stop) (moved_p ∙ sym is_p) (subst (λ y. Halts y p' c stop) stays halts) in
      record {
        stops = λ k.
            stop_passes _ _ stop (passes_on _ _ _ (so_far.on k)
            (passes_same _ _ (ap (λ y. run_then (out_of t.table t.place) t.place (more_form js ps l y) c k) one ∙ more_one (out_of t.table t.place) t.place js ps l T others c k)))
            (here.stops (λ y left. run_then (out_of t.table t.place) t.place (more_form (js ++ y ∷ []) ps l others) left k));
      }

  pub types_end : us ≡ [] → Goes t (more_form is ps l ts) b js c
  types_end none = record {
    on = λ k.
        passes_on _ _ _ (so_far.on k)
        (passes_same _ _ (ap (λ y. run_then (out_of t.table t.place) t.place (more_form js ps l y) c k) none ∙ ap (λ ys. k ys c) (append-nil js)));
  }

module _ {Base : Type 0} (t u : Standing Base) (stays : u ≡ t) (p n : ℕ) (T : Tree) (b : ℕ) where
  pub open_halts : (stop : Stop) → Halts t (telescope 0 p T) b stop → Halts t (open_form p n T) b stop
  open_halts stop h = halts_first t (telescope 0 p T) (λ ps. self_form p n ps.1 >>= λ e. done (first_parts ps.0 e)) b stop h

  pub open_halts_later : (ps : List Tree) (r : Tree) (c : ℕ) (stop : Stop) → Goes t (telescope 0 p T) b (ps, r) c → Halts u (self_form p n r) c stop → Halts t (open_form p n T) b stop
  open_halts_later ps r c stop first h =
      halts_later t u stays (telescope 0 p T) (λ ps. self_form p n ps.1 >>= λ e. done (first_parts ps.0 e)) b c (ps, r) stop first
      (halts_first u (self_form p n r) (λ e. done (first_parts ps e)) c stop h)

  pub open_goes : (ps : List Tree) (r : Tree) (c d : ℕ) (e : List Tree × Level) (z : PlainParts) → Goes t (telescope 0 p T) b (ps, r) c → Goes u (self_form p n r) c e d → z ≡ first_parts ps e → Goes t (open_form p n T) b z d
  open_goes ps r c d e z first second is =
      goes_on t u stays (telescope 0 p T) (λ ps. self_form p n ps.1 >>= λ e. done (first_parts ps.0 e)) b c d (ps, r) z first
      (ends_at u (self_form p n r) (λ e. done (first_parts ps e)) c d d e (first_parts ps e) z second refl is refl)

-- the parts of a store with these lists
pub parts_are : (d : Contents) (q : TypeParts) (ps : List Tree) (is : List Tree) (l : Level) → map (tree_at d) q.parameters.items ≡ ps → lists_at d q.indices.items ≡ is ∷ [] → level_at d q.sort ≡ l → parts_at d q ≡ first_parts ps (is, l)
parts_are d q ps is l e f g = cc

-- the types' kinds and numbers of indices stay
pub types_kept : (c d : Contents) (ps : List Tree) (l : Level) (ts : List StoredType) → Extends c d → All (IsTypeIn c) ts → next_types ps l (map (type_at d) ts) ≡ next_types ps l (map (type_at c) ts)
types_kept c d ps l [] x h = refl
types_kept c d ps l (t ∷ ts) x h =
    let known = All-head (IsTypeIn c) t ts h in
    let others = types_kept c d ps l ts x (All-tail (IsTypeIn c) t ts h) in
    ap (λ T. next_form ps l t.indices T >>= λ y. next_types ps l (map (type_at d) ts) >>= λ ys. done (y ∷ ys)) (x.trees.same t.ty known.stated.ty_in)
    ∙ ap (λ q. next_form ps l t.indices (tree_at c t.ty) >>= λ y. q >>= λ ys. done (y ∷ ys)) others

module _ {Base : Type 0} (t u : Standing Base) (stays : u ≡ t) (p : ℕ) (T : BlockType) (ts us : List BlockType) (all : List BlockType) (b : ℕ) (is : all ≡ T ∷ ts) where
  pub types_stop : (stop : Stop) → Halts t (first_form p T.indices T.type) b stop → Halts t (types_steps p all) b stop
  types_stop stop h = subst (λ q. Halts t (types_steps p q) b stop) (sym is) (record {
    stops = λ k.
        stop_same _ _ stop (types_run (out_of t.table t.place) t.place p T ts b k) ((halts_first t (first_form p T.indices T.type) (λ f. others_form f ts) b stop h).stops k);
  })

  pub types_give : {X : Type 0} (f : PlainParts) (c d : ℕ) (value : X → PlainParts) (r : Result X Stop) → Goes t (first_form p T.indices T.type) b f c → ((ps : List Tree) (l : Level) → next_types ps l us ≡ next_types ps l ts)
      → ComesTo u (others_form f us) c value d r → ComesTo t (types_steps p all) b value d r
  types_give {X = X} f c d value r first kept second = subst (λ q. ComesTo t (types_steps p q) b value d r) (sym is) (go r (gives_on t u stays (first_form p T.indices T.type) (λ f. others_form f ts) b c d f value r first
      (subst (λ q. ComesTo u ((q >>= λ xs. done (f.indices ++ xs)) >>= λ xs. done (record { params = f.params; sort = f.sort; indices = xs })) c value d r) (kept f.params f.sort) second)))
    where
      go : (s : Result X Stop) → ComesTo t (first_form p T.indices T.type >>= λ f. others_form f ts) b value d s → ComesTo t (types_steps p (T ∷ ts)) b value d s
      go (Ok z) h = record { on = λ k. passes_on _ _ _ (passes_same _ _ (types_run (out_of t.table t.place) t.place p T ts b k)) (h.on k) }
      go (Err stop) h = record { stops = λ k. stop_same _ _ stop (types_run (out_of t.table t.place) t.place p T ts b k) (h.stops k) }

parts_kept : (ps' ps : List Tree) (l' l : Level) (is : List (List Tree)) → ps' ≡ ps → l' ≡ l → (let p : PlainParts = record { params = ps'; sort = l'; indices = is } in p) ≡ (let q : PlainParts = record { params = ps; sort = l; indices = is } in q)
parts_kept ps' ps l' l is e f = ap (λ q. (let r : PlainParts = record { params = q; sort = l'; indices = is } in r)) e ∙ ap (λ k. (let r : PlainParts = record { params = ps; sort = k; indices = is } in r)) f

module _ {Base : Type 0} (t : Standing Base) (f : PlainParts) (us : List BlockType) (b : ℕ) (ps : List Tree) (given_params : ps ≡ f.params) where
  pub others_goes : (is : List (List Tree)) (d : ℕ) (ps' : List Tree) (l' : Level) → Goes t (more_form f.indices ps f.sort us) b is d → ps' ≡ f.params → l' ≡ f.sort → Goes t (others_form f us) b (let z : PlainParts = record { params = ps'; sort = l'; indices = is } in z) d
  others_goes is d ps' l' h e g =
      ends_at t (more_form f.indices f.params f.sort us) (λ xs. done (record { params = f.params; sort = f.sort; indices = xs })) b d d is (record { params = f.params; sort = f.sort; indices = is }) (record { params = ps'; sort = l'; indices = is })
      (subst (λ q. Goes t (more_form f.indices q f.sort us) b is d) given_params h) refl (parts_kept ps' f.params l' f.sort is e g) refl

  pub others_halt : (stop : Stop) → Halts t (more_form f.indices ps f.sort us) b stop → Halts t (others_form f us) b stop
  others_halt stop h =
      halts_first t (more_form f.indices f.params f.sort us) (λ xs. done (record { params = f.params; sort = f.sort; indices = xs })) b stop (subst (λ q. Halts t (more_form f.indices q f.sort us) b stop) given_params h)
