-- Fields one after another.
use Rattle.std.proofs.Common.{◌≡◌, ◌<◌, ◌≤◌, ℕ, suc, Bool, true, false, List, [], ◌∷◌, ◌++◌, Result, if◌then◌else◌, refl, sym, ap, subst, ◌∙◌, append_assoc, arith}
use Rattle.std.proofs.lemmas.List.{append-nil}
use Rattle.lk_tree.specs.Tree.{Level, Tree, local}
use Rattle.lk_tree.specs.Level.{is_zero_level}
use Rattle.lk_tree.specs.Bind.{opened}
use Rattle.lk_tree.specs.declared.rule.Rule.TheVariants.{BlockShape, FieldUniverse}
use Rattle.lk_rulebook.specs.Place.{Place}
use Rattle.lk_questions.specs.Query.{Query, whnf}
use Rattle.lk_questions.specs.Program.{Program, done, ◌>>=◌}
use Rattle.lk_questions.specs.Erased.{Out, out_of}
use Rattle.lk_questions.specs.Steps.{given, as_pi}
use Rattle.lk_inductive.specs.Block.{Frame, FieldKind, Field}
use Rattle.lk_inductive.specs.BlockSteps.{fits, fits_in, walk, fields_steps}
use Rattle.lk_ask.specs.declared.stop.Stop.{Stop}
use Rattle.lk_ask.specs.declared.stop.Stop.TheVariants.{No}
use Rattle.lk_ask.specs.Asking.{Standing}
use Rattle.lk_declaration.specs.Courses.{tree_then, run_then, Passes, Goes, Halts, ComesTo}
use Rattle.lk_block.specs.Forms.{pi_form}
use Rattle.lk_block.specs.Fields.{kind_form, field_form, next_field}
use Rattle.lk_declaration.proofs.Within.{goes_within}
use Rattle.lk_declaration.proofs.Running.{go_on_same, answer_then_same, run_same, run_bind, bind_same, passes_same, passes_on, stop_passes, goes_on, gives_on, halts_later, halts_first, ends_at}

-- where the block's level is not 0
pub fits_above : (l : Level) (A : Tree) (r : Bool) → r ≡ is_zero_level l → r ≡ false → fits_in l A ≡ fits l A
fits_above l A r e f = ap (λ b. if b then done true else fits l A) (sym e ∙ f)

module _ {Base : Type 0} (t u : Standing Base) (stays : u ≡ t) (fuel : ℕ) (F : Frame) (j : ℕ) (A : Tree) (b c : ℕ) (r : Bool) (first : Goes t (fits_in F.sort A) b r c) where
  pub kind_gives : {X : Type 0} (d : ℕ) (value : X → FieldKind) (res : Result X Stop) → r ≡ true → ComesTo u (walk fuel F j A) c value d res → ComesTo t (kind_form fuel F j A) b value d res
  kind_gives d value res e second =
      gives_on t u stays (fits_in F.sort A) (λ allowed. given allowed FieldUniverse (walk fuel F j A)) b c d true value res (subst (λ q. Goes t (fits_in F.sort A) b q c) e first) second

  pub kind_differs : r ≡ false → Halts t (kind_form fuel F j A) b (No FieldUniverse)
  kind_differs e =
      halts_later t t refl (fits_in F.sort A) (λ allowed. given allowed FieldUniverse (walk fuel F j A)) b c false (No FieldUniverse) (subst (λ q. Goes t (fits_in F.sort A) b q c) e first) (record { stops = λ k. refl })

pub walk_kept : (fuel : ℕ) (G F : Frame) (j : ℕ) (B A : Tree) → G ≡ F → B ≡ A → walk fuel G j B ≡ walk fuel F j A
walk_kept fuel G F j B A e f = ap (λ H. walk fuel H j B) e ∙ ap (walk fuel F j) f

pub field_kept : (fuel : ℕ) (G F : Frame) (j : ℕ) (B A M L : Tree) → G ≡ F → B ≡ A → M ≡ L → field_form fuel G j B M ≡ field_form fuel F j A L
field_kept fuel G F j B A M L e f g = ap (λ H. field_form fuel H j B M) e ∙ ap (λ C. field_form fuel F j C M) f ∙ ap (field_form fuel F j A) g

module _ {Base : Type 0} (t u : Standing Base) (stays : u ≡ t) (fuel : ℕ) (F : Frame) (j : ℕ) (r A B : Tree) (b c : ℕ) (first : Goes t (pi_form r) b (A, B) c) where
  pub field_goes : (f : Field) (z : Field × Tree) (d : ℕ) → Goes u (field_form fuel F j A (local j A)) c f d → z ≡ (f, opened B (local j A)) → Goes t (next_field fuel F j r) b z d
  field_goes f z d second is =
      goes_on t u stays (pi_form r) (λ p. field_form fuel F j p.0 (local j p.0) >>= λ f. done (f, opened p.1 (local j p.0))) b c d (A, B) z first
      (ends_at u (field_form fuel F j A (local j A)) (λ f. done (f, opened B (local j A))) c d d f (f, opened B (local j A)) z second refl is refl)

  pub field_halts : (stop : Stop) → Halts u (field_form fuel F j A (local j A)) c stop → Halts t (next_field fuel F j r) b stop
  field_halts stop second =
      halts_later t u stays (pi_form r) (λ p. field_form fuel F j p.0 (local j p.0) >>= λ f. done (f, opened p.1 (local j p.0))) b c (A, B) stop first
      (halts_first u (field_form fuel F j A (local j A)) (λ f. done (f, opened B (local j A))) c stop second)

module _ (answer : Query → ℕ → Out) (w : Place) (fuel : ℕ) (F : Frame) where
  -- one field, and then the others
  pub fields_one : (j n : ℕ) (r : Tree) (b : ℕ) (k : List Field × Tree → ℕ → Out)
      → run_then answer w (fields_steps fuel F j (suc n) r) b k ≡ run_then answer w (next_field fuel F j r) b (λ p left. run_then answer w (fields_steps fuel F (suc j) n p.1) left (λ x rest. k (p.0 ∷ x.0, x.1) rest))
  fields_one j n r b k =
      let next : Field × Tree → ℕ → Out = λ p left. run_then answer w (fields_steps fuel F (suc j) n p.1) left (λ x rest. k (p.0 ∷ x.0, x.1) rest) in
      let others : Tree × Tree → FieldKind → Program (List Field × Tree) = λ p q. fields_steps fuel F (suc j) n (opened p.1 (local j p.0)) >>= λ fs. done (record { variable = local j p.0; kind = q } ∷ fs.0, fs.1) in
      let kind : Tree × Tree → Bool → Program FieldKind = λ p allowed. given allowed FieldUniverse (walk fuel F (suc j) p.0) in
      let field : Tree × Tree → FieldKind → Program Field = λ p q. done (record { variable = local j p.0; kind = q }) in
      let pair : Tree × Tree → Field → Program (Field × Tree) = λ p f. done (f, opened p.1 (local j p.0)) in
      let whole : Tree × Tree → Program (List Field × Tree) = λ p. fits_in F.sort p.0 >>= λ allowed. kind p allowed >>= others p in
      let own : Tree × Tree → Program (Field × Tree) = λ p. field_form fuel F j p.0 (local j p.0) >>= pair p in
      let after : Tree × Tree → FieldKind → ℕ → Out = λ p q left. run_then answer w (others p q) left k in
      let one : (p : Tree × Tree) (left : ℕ) → run_then answer w (whole p) left k ≡ run_then answer w (own p) left next = λ p left.
      run_bind answer w (fits_in F.sort p.0) (λ allowed. kind p allowed >>= others p) left k
      ∙ run_same answer w (fits_in F.sort p.0) left (λ allowed l. run_then answer w (kind p allowed >>= others p) l k) (λ allowed l. run_then answer w (kind p allowed) l (after p)) (λ allowed l. run_bind answer w (kind p allowed) (others p) l k)
      ∙ sym (run_bind answer w (fits_in F.sort p.0) (kind p) left (after p))
      ∙ run_same answer w (kind_form fuel F (suc j) p.0) left (after p) (λ q l. next (record { variable = local j p.0; kind = q }, opened p.1 (local j p.0)) l)
      (λ q l. run_bind answer w (fields_steps fuel F (suc j) n (opened p.1 (local j p.0))) (λ fs. done (record { variable = local j p.0; kind = q } ∷ fs.0, fs.1)) l k)
      ∙ sym (run_bind answer w (field_form fuel F j p.0 (local j p.0)) (pair p) left next
      ∙ run_bind answer w (kind_form fuel F (suc j) p.0) (field p) left (λ f l. next (f, opened p.1 (local j p.0)) l)) in
      let form : (R : Tree) (left : ℕ) → run_then answer w (as_pi BlockShape R >>= whole) left k ≡ run_then answer w (as_pi BlockShape R >>= own) left next = λ R left. bind_same answer w (as_pi BlockShape R) whole own left k next one in
      go_on_same (answer (whnf r) b) (tree_then (λ R left. run_then answer w (as_pi BlockShape R >>= whole) left k)) (tree_then (λ R left. run_then answer w (as_pi BlockShape R >>= own) left next))
      (answer_then_same (whnf r) (λ R left. run_then answer w (as_pi BlockShape R >>= whole) left k) (λ R left. run_then answer w (as_pi BlockShape R >>= own) left next) form)

-- whatever comes next, n fields from number j on are, after these, m fields from number i on, and no more is left than there was
pub record LeadsFields {Base : Type 0} (t : Standing Base) (F : Frame) (j n : ℕ) (r : Tree) (b : ℕ) (fs : List Field) (i m : ℕ) (s : Tree) (c : ℕ) : Type 0 where
  pub less : c ≤ b
  pub on : (fuel : ℕ) → b < fuel → (k : List Field × Tree → ℕ → Out) → Passes (run_then (out_of t.table t.place) t.place (fields_steps fuel F j n r) b k) (run_then (out_of t.table t.place) t.place (fields_steps fuel F i m s) c (λ x left. k (fs ++ x.0, x.1) left))

pub fields_first : {Base : Type 0} (t : Standing Base) (F : Frame) (j n : ℕ) (r : Tree) (b : ℕ) → LeadsFields t F j n r b [] j n r b
fields_first t F j n r b = record { less = omega arith; on = λ fuel enough k. passes_same _ _ refl }

module _ {Base : Type 0} (t u : Standing Base) (stays : u ≡ t) (F : Frame) (j n : ℕ) (r : Tree) (b : ℕ) (fs : List Field) (i m : ℕ) (s : Tree) (c : ℕ) (so_far : LeadsFields t F j n r b fs i m s c) (G : Frame) (same_frame : G ≡ F) where
  moved_goes : (fuel : ℕ) (z : Field × Tree) (d : ℕ) → Goes u (next_field fuel G i s) c z d → Goes t (next_field fuel F i s) c z d
  moved_goes fuel z d h = subst (λ f. Goes t (next_field fuel f i s) c z d) same_frame (subst (λ y. Goes y (next_field fuel G i s) c z d) stays h)

  pub fields_next : (gs : List Field) (h l : ℕ) (f : Field) (v : Tree) (d : ℕ) → m ≡ suc l → h ≡ suc i → gs ≡ fs ++ f ∷ [] → ((fuel : ℕ) → c < fuel → Goes u (next_field fuel G i s) c (f, v) d) → LeadsFields t F j n r b gs h l v d
  fields_next gs h l f v d one next more goes = record {
    less = let before = so_far.less in let here = goes_within u (next_field (suc c) G i s) c (f, v) d (goes (suc c) (omega arith)) in omega arith;
    on = λ fuel enough k.
        let inner : List Field × Tree → ℕ → Out = λ x left. k (fs ++ x.0, x.1) left in
        let here : Goes t (next_field fuel F i s) c (f, v) d = moved_goes fuel (f, v) d (goes fuel (let before = so_far.less in omega arith)) in
        passes_on _ _ _ (so_far.on fuel enough k)
        (passes_on _ _ _ (passes_same _ _ (ap (λ y. run_then (out_of t.table t.place) t.place (fields_steps fuel F i y s) c inner) one ∙ fields_one (out_of t.table t.place) t.place fuel F i l s c inner))
        (passes_on _ _ _ (here.on (λ p left. run_then (out_of t.table t.place) t.place (fields_steps fuel F (suc i) l p.1) left (λ x rest. inner (p.0 ∷ x.0, x.1) rest)))
        (passes_same _ _ (run_same (out_of t.table t.place) t.place (fields_steps fuel F (suc i) l v) d (λ x rest. inner (f ∷ x.0, x.1) rest) (λ x rest. k (gs ++ x.0, x.1) rest)
        (λ x rest. ap (λ ys. k (ys, x.1) rest) (sym (append_assoc fs (f ∷ []) x.0) ∙ ap (λ zs. zs ++ x.0) (sym more)))
        ∙ ap (λ y. run_then (out_of t.table t.place) t.place (fields_steps fuel F y l v) d (λ x rest. k (gs ++ x.0, x.1) rest)) (sym next)))));
  }

  pub fields_halt : (l : ℕ) (stop : Stop) → m ≡ suc l → ((fuel : ℕ) → c < fuel → Halts u (next_field fuel G i s) c stop) → (fuel : ℕ) → b < fuel → Halts t (fields_steps fuel F j n r) b stop
  fields_halt l stop one halts fuel enough =
      let given : Halts u (next_field fuel G i s) c stop = halts fuel (let before = so_far.less in omega arith) in
      let here : Halts t (next_field fuel F i s) c stop = subst (λ f. Halts t (next_field fuel f i s) c stop) same_frame (subst (λ y. Halts y (next_field fuel G i s) c stop) stays given) in
      record {
        stops = λ k.
            let inner : List Field × Tree → ℕ → Out = λ x left. k (fs ++ x.0, x.1) left in
            stop_passes _ _ stop (passes_on _ _ _ (so_far.on fuel enough k)
            (passes_same _ _ (ap (λ y. run_then (out_of t.table t.place) t.place (fields_steps fuel F i y s) c inner) one ∙ fields_one (out_of t.table t.place) t.place fuel F i l s c inner)))
            (here.stops (λ p left. run_then (out_of t.table t.place) t.place (fields_steps fuel F (suc i) l p.1) left (λ x rest. inner (p.0 ∷ x.0, x.1) rest)));
      }

  pub fields_end : m ≡ 0 → (fuel : ℕ) → b < fuel → Goes t (fields_steps fuel F j n r) b (fs, s) c
  fields_end none fuel enough = record {
    on = λ k.
        passes_on _ _ _ (so_far.on fuel enough k)
        (passes_same _ _ (ap (λ y. run_then (out_of t.table t.place) t.place (fields_steps fuel F i y s) c (λ x left. k (fs ++ x.0, x.1) left)) none ∙ ap (λ ys. k (ys, s) c) (append-nil fs)));
  }
