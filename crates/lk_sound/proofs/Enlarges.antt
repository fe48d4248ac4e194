-- The larger block stands for the stated one.
use Rattle.std.proofs.Common.{ℕ, zero, suc, ◌≡◌, ◌≤◌, ◌+◌, Bool, true, false, ◌||◌, nat_eq, List, [], ◌∷◌, length, Option, Some, None, refl, arith}
use Rattle.lk_tree.specs.Tree.{Name, Level, Tree, var, sort, const, app, lam, pi, let_in, proj, lit, wide, str, local}
use Rattle.lk_tree.specs.Bind.{opened, close, bound}
use Rattle.lk_tree.specs.Spine.{head, args}
use Rattle.lk_tree.specs.WellFormed.{IsWellFormed}
use Rattle.lk_tree.specs.declared.rule.Rule.TheVariants.{UnknownConstant, BlockShape}
use Rattle.lk_tree.proofs.Binding.{close_fine, close_bound}
use Rattle.lk_rulebook.specs.Place.{Place, Kind, Block, BlockType, Ctor, a_type}
use Rattle.lk_tree.specs.Mentions.{is_one_of}
use Rattle.lk_questions.specs.Program.{Program, done, look, ◌>>=◌}
use Rattle.lk_questions.specs.Sound.{IsSound, WellStated, IsStated, CtorsStated, TypesStated}
use Rattle.lk_questions.proofs.Soundness.{sound_bind, sound_map}
use Rattle.lk_claims.proofs.Pieces.{sound_given}
use Rattle.lk_claims.proofs.Facts.{sound_if}
use Rattle.lk_inductive.specs.Block.{domain}
use Rattle.lk_inductive.specs.Relation.{AreNumbered}
use Rattle.lk_inductive.specs.BlockSteps.{mention_none}
use Rattle.lk_inductive.specs.Recursors.{number, pis}
use Rattle.lk_inductive.specs.Nested.{Aux, Setting, has_pis, nest, holds_kind, holds_head, either_holds, holds_nested, nest_past, held_ctor, own_ctor, own_ctors, own_types, aux_ctors, aux_from, aux_type, next_aux, aux_types, Larger, enlarge}
use Rattle.lk_inductive.specs.Restore.{first_name, all_stand}
use Rattle.lk_inductive.specs.NestedRelation.{ReadsPast, read_rest, read_past, as_stated, past_params, IsOwnCtor, OwnCtors, no_own_ctor, own_ctor_more, OwnTypes, no_own_type, own_type_more, AuxCtors, no_aux_ctor, aux_ctor_more, AuxTypes, no_aux, aux_more, IsEnlarged, Clear, ClearCtors, ClearTypes, IsClear}
use Rattle.lk_sound.proofs.Scoped.{In, local_bound, open_bound}
use Rattle.lk_sound.proofs.Clears.{all_marked, clear_back}
use Rattle.lk_sound.proofs.Instances.{HeldUnder, AllHeld, ParamsHeld, held_open, held_stated, ArePut, put_more, only_in, held_in}
use Rattle.lk_sound.proofs.Auxs.{AuxIs, AllAux}
use Rattle.lk_sound.proofs.Nests.{Extends, extends_trans, Nests, nest_sound}

-- the premises on the place and on P0 ..
pub record Ground (w : Place) (s : Setting) : Type 0 where
  pub stated : WellStated w
  pub clear : IsClear w
  pub params : ParamsHeld s
  pub numbered : AreNumbered 0 s.params
  pub held : AllHeld 0 s s.params

-- closing over P0 .. leaves no Local
pi_in : (j : ℕ) (P A e : Tree) → P ≡ local j A → IsWellFormed (local j A) → In (suc j) e → In j (pi (domain P) (close (number P) e))
unfolding bound
pi_in j P A e i f h = rw i ((f.0, close_fine 0 j e h.0), omega (arith, f.1, close_bound 0 j e h.0 h.1))

pub pis_in : (j : ℕ) (ps : List Tree) (e : Tree) → AreNumbered j ps → In (j + length ps) e → In j (pis ps e)
pis_in j [] e n h = (h.0, omega (arith, h.1))
pis_in j (P ∷ ps) e n h = pi_in j P n.0.0 (pis ps e) n.0.1 n.0.2 (pis_in (suc j) ps e n.1 (h.0, omega (arith, h.1)))

kept_in : (j : ℕ) (P A₀ A e : Tree) → P ≡ local j A₀ → IsWellFormed A → bound A ≤ j → In (suc j) e → In j (pi A (close (number P) e))
unfolding bound
kept_in j P A₀ A e i f b h = rw i ((f, close_fine 0 j e h.0), omega (arith, b, close_bound 0 j e h.0 h.1))

-- past P0 ..
pub record NestsPast (w : Place) (s : Setting) (T₁ : Name) (j : ℕ) (ps : List Tree) (e : Tree) (as_ : List Aux) (v : Tree × List Aux) : Type 0 where
  pub extends : Extends as_ v.1
  pub reads : (bs : List Aux) → Extends v.1 bs → ReadsPast s (all_stand T₁ 0 bs) ps e v.0
  pub within : In j v.0
  pub auxs : AllAux w s v.1

pi_parts : (j : ℕ) (A B : Tree) → bound (pi A B) ≤ j → (bound A ≤ j) × (bound B ≤ j)
unfolding bound
pi_parts j A B h = (omega arith, omega arith)

number_bound : (j : ℕ) (P A : Tree) → P ≡ local j A → IsWellFormed (local j A) → bound P ≤ suc j
number_bound j P A i f = rw i (local_bound j A f.1)

sound_nest_past : (w : Place) (s : Setting) (T₁ : Name) → Ground w s → (ps : List Tree) (j : ℕ) (e : Tree) (as_ : List Aux) → AreNumbered j ps → j + length ps ≡ length s.params → AllHeld 0 s ps → HeldUnder 0 s e → bound e ≤ j → AllAux w s as_ →
    IsSound w (nest_past s ps e as_) (NestsPast w s T₁ j ps e as_)
sound_nest_past w s T₁ g [] j e as_ n l hp h b all =
    sound_map w (nest s e as_) (Nests w s T₁ 0 e as_) (NestsPast w s T₁ j [] e as_)
    (λ v x.
    let i : In (length s.params) v.0 = only_in s v.0 g.params x.fine x.only in record {
      extends = x.extends;
      reads = λ bs ext. read_rest v.0 (x.reads bs [] ext);
      within = (x.fine, omega (arith, i.1, l));
      auxs = x.auxs;
    })
    (nest_sound w s T₁ g.stated g.clear g.params e 0 as_ h all)
sound_nest_past w s T₁ g (P ∷ ps) j (pi A B) as_ n l hp h b all =
    let o : HeldUnder 0 s (opened B P) = held_open s A B P h hp.0 in
    let c : (bound A ≤ j) × (bound B ≤ j) = pi_parts j A B b in
    let bo : bound (opened B P) ≤ suc j = open_bound (suc j) B P (omega (arith, c.1)) (number_bound j P n.0.0 n.0.1 n.0.2) in
    sound_bind w (nest_past s ps (opened B P) as_) (λ e. done (pi A (close (number P) e.0), e.1)) (NestsPast w s T₁ (suc j) ps (opened B P) as_) (NestsPast w s T₁ j (P ∷ ps) (pi A B) as_)
    (sound_nest_past w s T₁ g ps (suc j) (opened B P) as_ n.1 (omega (arith, l)) hp.1 o bo all)
    (λ v x. record {
      extends = x.extends;
      reads = λ bs ext. read_past v.0 (x.reads bs ext);
      within = kept_in j P n.0.0 A v.0 n.0.1 h.fine.0 c.0 x.within;
      auxs = x.auxs;
    })
sound_nest_past w s T₁ g (P ∷ ps) j _ as_ n l hp h b all = tt

-- nothing is asked
sound_either : (w : Place) (p q : Program Bool) → IsSound w p (λ h. Unit {0}) → IsSound w q (λ h. Unit {0}) → IsSound w (either_holds p q) (λ h. Unit {0})
sound_either w p q a b = sound_bind w p _ (λ h. Unit {0}) (λ h. Unit {0}) a (λ h x. sound_if w h (done true) q (λ y. Unit {0}) (λ y. tt) (λ n. b))

sound_holds_kind : (w : Place) (xs : List Tree) (k : Kind) (next : Program Bool) → IsSound w next (λ h. Unit {0}) → IsSound w (holds_kind xs k next) (λ h. Unit {0})
sound_holds_kind w xs (a_type b t) next a = sound_if w (nat_eq (length xs) t.parameters) (done true) next (λ y. Unit {0}) (λ y. tt) (λ n. a)
sound_holds_kind w xs _ next a = a

sound_holds_head : (w : Place) (ns : List Name) (h : Tree) (xs : List Tree) (next : Program Bool) → IsSound w next (λ h. Unit {0}) → IsSound w (holds_head ns h xs next) (λ h. Unit {0})
sound_holds_head w ns (const J ls) xs next a =
    sound_if w (is_one_of ns J || mention_none ns xs) next (look UnknownConstant J λ g. holds_kind xs g.kind next) (λ y. Unit {0}) (λ y. a) (λ n. λ g m. sound_holds_kind w xs g.kind next a)
sound_holds_head w ns _ xs next a = a

sound_holds : (w : Place) (ns : List Name) (e : Tree) → IsSound w (holds_nested ns e) (λ h. Unit {0})
sound_holds w ns (app f a) = sound_holds_head w ns (head (app f a)) (args (app f a)) (either_holds (holds_nested ns f) (holds_nested ns a)) (sound_either w (holds_nested ns f) (holds_nested ns a) (sound_holds w ns f) (sound_holds w ns a))
sound_holds w ns (lam A b) = sound_either w (holds_nested ns A) (holds_nested ns b) (sound_holds w ns A) (sound_holds w ns b)
sound_holds w ns (pi A b) = sound_either w (holds_nested ns A) (holds_nested ns b) (sound_holds w ns A) (sound_holds w ns b)
sound_holds w ns (let_in A v b) =
    sound_either w (holds_nested ns A) (either_holds (holds_nested ns v) (holds_nested ns b)) (sound_holds w ns A) (sound_either w (holds_nested ns v) (holds_nested ns b) (sound_holds w ns v) (sound_holds w ns b))
sound_holds w ns (proj S i e) = sound_holds w ns e
sound_holds w ns (const c ls) = tt
sound_holds w ns (var i) = tt
sound_holds w ns (sort l) = tt
sound_holds w ns (lit k) = tt
sound_holds w ns wide = tt
sound_holds w ns (str k) = tt
sound_holds w ns (local k T) = tt

-- the block's own constructors
pub record NestsCtor (w : Place) (s : Setting) (T₁ : Name) (c : Ctor) (as_ : List Aux) (v : Ctor × List Aux) : Type 0 where
  pub extends : Extends as_ v.1
  pub reads : (bs : List Aux) → Extends v.1 bs → IsOwnCtor s (all_stand T₁ 0 bs) c v.0
  pub stated : IsStated v.0.type
  pub auxs : AllAux w s v.1

sound_held : (w : Place) (s : Setting) (T₁ : Name) → Ground w s → (c : Ctor) (as_ : List Aux) → IsStated c.type → Clear c.type → AllAux w s as_ → (h : Bool) → IsSound w (held_ctor s c as_ h) (NestsCtor w s T₁ c as_)
sound_held w s T₁ g c as_ st cl all false = record {
  extends = λ i a q. q;
  reads = λ bs ext. record { name = refl; levels = refl; parent = refl; place = refl; parameters = refl; fields = refl; type = as_stated (clear_back (all_stand T₁ 0 bs) s c.type [] (all_marked T₁ 0 bs) cl) };
  stated = st;
  auxs = all;
}
sound_held w s T₁ g c as_ st cl all true =
    sound_given w (has_pis (length s.params) c.type) BlockShape (nest_past s s.params c.type as_ >>= λ e. done (record c { type = e.0 }, e.1)) (NestsCtor w s T₁ c as_)
    (λ y. sound_bind w (nest_past s s.params c.type as_) (λ e. done (record c { type = e.0 }, e.1)) (NestsPast w s T₁ 0 s.params c.type as_) (NestsCtor w s T₁ c as_)
    (sound_nest_past w s T₁ g s.params 0 c.type as_ g.numbered (omega arith) g.held (held_stated s c.type st cl) (omega (arith, st.1)) all)
    (λ v x. record {
      extends = x.extends;
      reads = λ bs ext. record { name = refl; levels = refl; parent = refl; place = refl; parameters = refl; fields = refl; type = past_params (x.reads bs ext) };
      stated = (x.within.0, omega (arith, x.within.1));
      auxs = x.auxs;
    }))

sound_own_ctor : (w : Place) (s : Setting) (T₁ : Name) → Ground w s → (c : Ctor) (as_ : List Aux) → IsStated c.type → Clear c.type → AllAux w s as_ → IsSound w (own_ctor s c as_) (NestsCtor w s T₁ c as_)
sound_own_ctor w s T₁ g c as_ st cl all =
    sound_bind w (holds_nested s.names c.type) (λ h. held_ctor s c as_ h) (λ h. Unit {0}) (NestsCtor w s T₁ c as_) (sound_holds w s.names c.type) (λ h x. sound_held w s T₁ g c as_ st cl all h)

pub record NestsCtors (w : Place) (s : Setting) (T₁ : Name) (cs : List Ctor) (as_ : List Aux) (v : List Ctor × List Aux) : Type 0 where
  pub extends : Extends as_ v.1
  pub reads : (bs : List Aux) → Extends v.1 bs → OwnCtors s (all_stand T₁ 0 bs) cs v.0
  pub stated : CtorsStated v.0
  pub auxs : AllAux w s v.1

sound_own_ctors : (w : Place) (s : Setting) (T₁ : Name) → Ground w s → (cs : List Ctor) (as_ : List Aux) → CtorsStated cs → ClearCtors cs → AllAux w s as_ → IsSound w (own_ctors s cs as_) (NestsCtors w s T₁ cs as_)
sound_own_ctors w s T₁ g [] as_ st cl all = record { extends = λ i a q. q; reads = λ bs ext. no_own_ctor; stated = tt; auxs = all }
sound_own_ctors w s T₁ g (c ∷ cs) as_ st cl all =
    sound_bind w (own_ctor s c as_) _ (NestsCtor w s T₁ c as_) (NestsCtors w s T₁ (c ∷ cs) as_) (sound_own_ctor w s T₁ g c as_ st.0 cl.0 all)
    (λ d hd. sound_bind w (own_ctors s cs d.1) (λ ds. done (d.0 ∷ ds.0, ds.1)) (NestsCtors w s T₁ cs d.1) (NestsCtors w s T₁ (c ∷ cs) as_) (sound_own_ctors w s T₁ g cs d.1 st.1 cl.1 hd.auxs)
    (λ ds hds. record {
      extends = extends_trans as_ d.1 ds.1 hd.extends hds.extends;
      reads = λ bs ext. own_ctor_more (hd.reads bs (extends_trans d.1 ds.1 bs hds.extends ext)) (hds.reads bs ext);
      stated = (hd.stated, hds.stated);
      auxs = hds.auxs;
    }))

pub record NestsTypes (w : Place) (s : Setting) (T₁ : Name) (ts : List BlockType) (as_ : List Aux) (v : List BlockType × List Aux) : Type 0 where
  pub extends : Extends as_ v.1
  pub reads : (bs : List Aux) → Extends v.1 bs → OwnTypes s (all_stand T₁ 0 bs) ts v.0
  pub stated : TypesStated v.0
  pub auxs : AllAux w s v.1

sound_own_types : (w : Place) (s : Setting) (T₁ : Name) → Ground w s → (ts : List BlockType) (as_ : List Aux) → TypesStated ts → ClearTypes ts → AllAux w s as_ → IsSound w (own_types s ts as_) (NestsTypes w s T₁ ts as_)
sound_own_types w s T₁ g [] as_ st cl all = record { extends = λ i a q. q; reads = λ bs ext. no_own_type; stated = tt; auxs = all }
sound_own_types w s T₁ g (t ∷ ts) as_ st cl all =
    sound_bind w (own_ctors s t.ctors as_) _ (NestsCtors w s T₁ t.ctors as_) (NestsTypes w s T₁ (t ∷ ts) as_) (sound_own_ctors w s T₁ g t.ctors as_ st.0.1 cl.0.1 all)
    (λ cs hcs. sound_bind w (own_types s ts cs.1) (λ us. done (record t { ctors = cs.0 } ∷ us.0, us.1)) (NestsTypes w s T₁ ts cs.1) (NestsTypes w s T₁ (t ∷ ts) as_) (sound_own_types w s T₁ g ts cs.1 st.1 cl.1 hcs.auxs)
    (λ us hus. record {
      extends = extends_trans as_ cs.1 us.1 hcs.extends hus.extends;
      reads = λ bs ext. own_type_more (record { name = refl; levels = refl; type = refl; parameters = refl; indices = refl; ctors = hcs.reads bs (extends_trans cs.1 us.1 bs hus.extends ext) }) (hus.reads bs ext);
      stated = ((st.0.0, hcs.stated), hus.stated);
      auxs = hus.auxs;
    }))

-- the constructors of auxiliary type i
pub record NestsAux (w : Place) (s : Setting) (T₁ : Name) (i : ℕ) (a : Aux) (cs : List Ctor) (as_ : List Aux) (v : List Ctor × List Aux) : Type 0 where
  pub extends : Extends as_ v.1
  pub reads : (bs : List Aux) → Extends v.1 bs → AuxCtors s (all_stand T₁ 0 bs) i a cs v.0
  pub stated : CtorsStated v.0
  pub auxs : AllAux w s v.1

stated_from : (e : Tree) → In 0 e → IsStated e
stated_from e h = (h.0, omega (arith, h.1))

zero_in : (s : Setting) (e : Tree) → In (length s.params) e → In (0 + length s.params) e
zero_in s e h = (h.0, omega (arith, h.1))

no_ctor_put : {s : Setting} {ls : List Level} {bs : List Tree} {c : Ctor} {cs : List Ctor} → ArePut s ls bs (c ∷ cs) [] → ⊥
no_ctor_put p = elim p [ ]

sound_aux_ctors : (w : Place) (s : Setting) (T₁ : Name) → Ground w s → (i : ℕ) (a : Aux) (cs : List Ctor) (rs : List Tree) (as_ : List Aux) → ArePut s a.levels a.args cs rs → AllAux w s as_ → IsSound w (aux_ctors s i cs rs as_) (NestsAux w s T₁ i a cs as_)
sound_aux_ctors w s T₁ g i a [] rs as_ p all = record { extends = λ j b q. q; reads = λ bs ext. no_aux_ctor; stated = tt; auxs = all }
sound_aux_ctors w s T₁ g i a (c ∷ cs) [] as_ p all = absurd (no_ctor_put p)
sound_aux_ctors w s T₁ g i a (c ∷ cs) (r ∷ rs) as_ (put_more h p) all =
    sound_bind w (nest s r as_) _ (Nests w s T₁ 0 r as_) (NestsAux w s T₁ i a (c ∷ cs) as_) (nest_sound w s T₁ g.stated g.clear g.params r 0 as_ h.held all)
    (λ e he. sound_bind w (aux_ctors s i cs rs e.1) _ (NestsAux w s T₁ i a cs e.1) (NestsAux w s T₁ i a (c ∷ cs) as_) (sound_aux_ctors w s T₁ g i a cs rs e.1 p he.auxs)
    (λ ds hds. record {
      extends = extends_trans as_ e.1 ds.1 he.extends hds.extends;
      reads = λ bs ext. aux_ctor_more (record {
        name = refl;
        levels = refl;
        parameters = refl;
        fields = refl;
        counts = h.counts;
        body = e.0;
        type = refl;
        at = r;
        instance = h.instance;
        read = he.reads bs [] (extends_trans e.1 ds.1 bs hds.extends ext);
      }) (hds.reads bs ext);
      stated = (stated_from (pis s.params e.0) (pis_in 0 s.params e.0 g.numbered (zero_in s e.0 (only_in s e.0 g.params he.fine he.only))), hds.stated);
      auxs = hds.auxs;
    }))

-- the auxiliary types from number i on
pub record NestsAuxs (w : Place) (s : Setting) (T₁ : Name) (i : ℕ) (as_ : List Aux) (v : List BlockType × List Aux) : Type 0 where
  pub extends : Extends as_ v.1
  pub types : AuxTypes w s (all_stand T₁ 0 v.1) v.1 i v.0
  pub stated : TypesStated v.0
  pub auxs : AllAux w s v.1

aux_known : (w : Place) (s : Setting) (as_ : List Aux) (i : ℕ) (a : Aux) → AllAux w s as_ → aux_from as_ i ≡ Some a → AuxIs w s a
aux_known w s [] i a h e = absurd cc
aux_known w s (b ∷ as_) zero a h e = let q : b ≡ a = cc in rw (← q) h.0
aux_known w s (b ∷ as_) (suc i) a h e = aux_known w s as_ i a h.1 e

sound_next_aux : (w : Place) (s : Setting) (T₁ : Name) → Ground w s → (next : ℕ → List Aux → Program (List BlockType × List Aux)) → ((i : ℕ) (as_ : List Aux) → AllAux w s as_ → IsSound w (next i as_) (NestsAuxs w s T₁ i as_)) →
    (i : ℕ) (as_ : List Aux) → AllAux w s as_ → (o : Option Aux) → aux_from as_ i ≡ o → IsSound w (next_aux next s i as_ o) (NestsAuxs w s T₁ i as_)
sound_next_aux w s T₁ g next f i as_ all None e = record { extends = λ j a q. q; types = no_aux e; stated = tt; auxs = all }
sound_next_aux w s T₁ g next f i as_ all (Some a) e =
    let known : AuxIs w s a = aux_known w s as_ i a all e in
    sound_bind w (aux_ctors s i a.own.ctors a.ctors as_) _ (NestsAux w s T₁ i a a.own.ctors as_) (NestsAuxs w s T₁ i as_) (sound_aux_ctors w s T₁ g i a a.own.ctors a.ctors as_ known.ctors all)
    (λ cs hcs. sound_bind w (next (suc i) cs.1) (λ ts. done (aux_type s i a cs.0 ∷ ts.0, ts.1)) (NestsAuxs w s T₁ (suc i) cs.1) (NestsAuxs w s T₁ i as_) (f (suc i) cs.1 hcs.auxs)
    (λ ts hts. record {
      extends = extends_trans as_ cs.1 ts.1 hcs.extends hts.extends;
      types = aux_more (hts.extends i a (hcs.extends i a e)) (record {
        from = known.from;
        name = refl;
        levels = refl;
        parameters = refl;
        indices = refl;
        instance = known.type.instance;
        type = refl;
        ctors = hcs.reads ts.1 hts.extends;
      }) hts.types;
      stated = ((stated_from (pis s.params a.type) (pis_in 0 s.params a.type g.numbered (zero_in s a.type (held_in s a.type g.params known.type.held))), hcs.stated), hts.stated);
      auxs = hts.auxs;
    }))

sound_aux_types : (w : Place) (s : Setting) (T₁ : Name) → Ground w s → (n i : ℕ) (as_ : List Aux) → AllAux w s as_ → IsSound w (aux_types n s i as_) (NestsAuxs w s T₁ i as_)
sound_aux_types w s T₁ g zero i as_ all = tt
sound_aux_types w s T₁ g (suc n) i as_ all = sound_next_aux w s T₁ g (aux_types n s) (sound_aux_types w s T₁ g n) i as_ all (aux_from as_ i) refl

-- the walk of nested occurrences gives a block that stands for the stated one
pub record Enlarging (w : Place) (s : Setting) (b : Block) (lg : Larger) : Type 0 where
  pub stands_for_it : IsEnlarged w s b lg
  pub own : TypesStated lg.own
  pub aux : TypesStated lg.aux
  pub auxs : AllAux w s lg.auxs

pub sound_enlarge : (w : Place) (s : Setting) → Ground w s → (b : Block) → TypesStated b.types → ClearTypes b.types → IsSound w (enlarge s b.types) (Enlarging w s b)
sound_enlarge w s g b st cl =
    let T₁ : Name = first_name b.types in
    sound_bind w (own_types s b.types []) _ (NestsTypes w s T₁ b.types []) (Enlarging w s b) (sound_own_types w s T₁ g b.types [] st cl tt)
    (λ own ho. sound_bind w (aux_types 1025 s 0 own.1) (λ aux. done (record { own = own.0; aux = aux.0; auxs = aux.1 })) (NestsAuxs w s T₁ 0 own.1) (Enlarging w s b) (sound_aux_types w s T₁ g 1025 0 own.1 ho.auxs)
    (λ aux ha. record {
      stands_for_it = record { own = ho.reads aux.1 ha.extends; aux = ha.types };
      own = ho.stated;
      aux = ha.stated;
      auxs = ha.auxs;
    }))
