-- The auxiliary types that an occurrence brings.
use Rattle.std.proofs.Common.{ℕ, ◌≡◌, ◌+◌, ◌⊎◌, inl, inr, false, List, [], ◌∷◌, ◌++◌, length, Some, refl}
use Rattle.lk_tree.specs.Tree.{Name, Level, Tree, sort}
use Rattle.lk_rulebook.specs.Place.{Place, Entry, Block, BlockType, a_type}
use Rattle.lk_tree.specs.Mentions.{same_name, is_one_of}
use Rattle.lk_questions.specs.Program.{done}
use Rattle.lk_questions.specs.Sound.{IsSound, IsStated, CtorsStated, TypesStated}
use Rattle.lk_questions.proofs.Soundness.{sound_bind}
use Rattle.lk_claims.proofs.Facts.{sound_if}
use Rattle.lk_inductive.specs.Relation.{Telescope}
use Rattle.lk_inductive.specs.BlockSteps.{as_level}
use Rattle.lk_inductive.specs.Nested.{Aux, Setting, at_args, stated_pis, ctors_at, aux_of, others_of, family_of}
use Rattle.lk_inductive.specs.NestedRelation.{IsTypeOf, AreOverParams, IsFrom, Clear, ClearCtors, ClearTypes}
use Rattle.lk_sound.proofs.Scoped.{AllIn}
use Rattle.lk_sound.proofs.Instances.{AllHeld, ParamsHeld, held_in, IsPut, sound_at, IsStatedEnd, sound_stated, sound_level, ArePut, sound_ctors_at}

-- what is known of an auxiliary type
pub record AuxIs (w : Place) (s : Setting) (a : Aux) : Type 0 where
  pub from : IsFrom w s a
  pub type : IsPut s a.levels a.args a.own.levels a.own.type a.type
  pub telescope : (v : Place) → Telescope v (length s.params) a.own.indices a.type a.indices (sort a.sort)
  pub locals : AllIn (length s.params + a.own.indices) a.indices
  pub ctors : ArePut s a.levels a.args a.own.ctors a.ctors

abbrev pub AllAux : Place → Setting → List Aux → Type 0
AllAux w s [] = Unit {0}
AllAux w s (a ∷ as_) = AuxIs w s a × AllAux w s as_

pub all_aux_append : (w : Place) (s : Setting) (as_ bs : List Aux) → AllAux w s as_ → AllAux w s bs → AllAux w s (as_ ++ bs)
all_aux_append w s [] bs h i = i
all_aux_append w s (a ∷ as_) bs h i = (h.0, all_aux_append w s as_ bs h.1 i)

-- J ls b1 .. bq, of an earlier block
pub record IsHead (w : Place) (s : Setting) (J : Name) (b : Block) (t : BlockType) (bs : List Tree) : Type 0 where
  pub entry : Entry
  pub given : w.means J ≡ Some entry
  pub kind : entry.kind ≡ a_type b t
  pub earlier : is_one_of s.names J ≡ false
  pub parameters : length bs ≡ t.parameters
  pub args : AreOverParams s.params bs
  pub held : AllHeld 0 s bs

-- one that was just made
pub record IsNew (w : Place) (s : Setting) (c : Name) (ls : List Level) (bs : List Tree) (a : Aux) : Type 0 where
  pub is : AuxIs w s a
  pub name : a.name ≡ c
  pub levels : a.levels ≡ ls
  pub args : a.args ≡ bs

telescope_to : (p n : ℕ) (r last S : Tree) (xs : List Tree) → last ≡ S → ((v : Place) → Telescope v p n r xs last) → (v : Place) → Telescope v p n r xs S
telescope_to p n r last S xs e f v = let t : Telescope v p n r xs last = f v in rw e at t

sound_aux_of : (w : Place) (s : Setting) (ls : List Level) (bs : List Tree) (J c : Name) (b : Block) (t u : BlockType) → ParamsHeld s → IsHead w s J b t bs →
    ((c ≡ J) × (u ≡ t)) ⊎ ((c ≡ u.name) × IsTypeOf u b.types) → IsStated u.type → CtorsStated u.ctors → Clear u.type → ClearCtors u.ctors → IsSound w (aux_of s ls bs c u) (IsNew w s c ls bs)
sound_aux_of w s ls bs J c b t u ps h own st sc ct cc_ =
    sound_bind w (at_args ls bs u.levels u.type) _ (IsPut s ls bs u.levels u.type) (IsNew w s c ls bs) (sound_at w s ls bs u.levels u.type h.held st ct)
    (λ r hr. sound_bind w (stated_pis (length s.params) u.indices r) _ (IsStatedEnd (length s.params) u.indices r) (IsNew w s c ls bs) (sound_stated w (length s.params) u.indices r (held_in s r ps hr.held))
    (λ x hx. sound_bind w (as_level x.1) _ (λ l. x.1 ≡ sort l) (IsNew w s c ls bs) (sound_level w x.1)
    (λ l hl. sound_bind w (ctors_at ls bs u.ctors) _ (ArePut s ls bs u.ctors) (IsNew w s c ls bs) (sound_ctors_at w s ls bs u.ctors h.held sc cc_)
    (λ cs hcs. record {
      is = record {
        from = record {
          J = J;
          entry = h.entry;
          block = b;
          type = t;
          given = h.given;
          kind = h.kind;
          earlier = h.earlier;
          own = own;
          parameters = h.parameters;
          args = h.args;
          levels = hr.counts;
        };
        type = hr;
        telescope = telescope_to (length s.params) u.indices r x.1 (sort l) x.0 hl hx.telescope;
        locals = hx.locals;
        ctors = hcs;
      };
      name = refl;
      levels = refl;
      args = refl;
    }))))

sound_others : (w : Place) (s : Setting) (ls : List Level) (bs : List Tree) (J : Name) (b : Block) (t : BlockType) (us : List BlockType) → ParamsHeld s → IsHead w s J b t bs →
    ((u : BlockType) → IsTypeOf u us → IsTypeOf u b.types) → TypesStated us → ClearTypes us → IsSound w (others_of s ls bs J us) (AllAux w s)
sound_others w s ls bs J b t [] ps h i st cl = tt
sound_others w s ls bs J b t (u ∷ us) ps h i st cl =
    sound_if w (same_name J u.name) (others_of s ls bs J us) _ (AllAux w s) (λ y. sound_others w s ls bs J b t us ps h (λ v m. i v (inr m)) st.1 cl.1)
    (λ n. sound_bind w (aux_of s ls bs u.name u) _ (IsNew w s u.name ls bs) (AllAux w s) (sound_aux_of w s ls bs J u.name b t u ps h (inr (refl, i u (inl refl))) st.0.0 st.0.1 cl.0.0 cl.0.1)
    (λ a ha. sound_bind w (others_of s ls bs J us) (λ as_. done (a ∷ as_)) (AllAux w s) (AllAux w s) (sound_others w s ls bs J b t us ps h (λ v m. i v (inr m)) st.1 cl.1)
    (λ as_ has. (ha.is, has))))

-- J first, under its name, levels and arguments
pub record IsFamily (w : Place) (s : Setting) (J : Name) (ls : List Level) (bs : List Tree) (as_ : List Aux) : Type 0 where
  pub first : Aux
  pub rest : List Aux
  pub parts : as_ ≡ first ∷ rest
  pub name : first.name ≡ J
  pub levels : first.levels ≡ ls
  pub args : first.args ≡ bs
  pub all : AllAux w s as_

pub sound_family : (w : Place) (s : Setting) (ls : List Level) (bs : List Tree) (J : Name) (b : Block) (t : BlockType) → ParamsHeld s → IsHead w s J b t bs →
    IsStated t.type → CtorsStated t.ctors → TypesStated b.types → Clear t.type → ClearCtors t.ctors → ClearTypes b.types → IsSound w (family_of s ls bs J b t) (IsFamily w s J ls bs)
sound_family w s ls bs J b t ps h st sc sb ct cc_ cb =
    sound_bind w (aux_of s ls bs J t) _ (IsNew w s J ls bs) (IsFamily w s J ls bs) (sound_aux_of w s ls bs J J b t t ps h (inl (refl, refl)) st sc ct cc_)
    (λ a ha. sound_bind w (others_of s ls bs J b.types) (λ as_. done (a ∷ as_)) (AllAux w s) (IsFamily w s J ls bs) (sound_others w s ls bs J b t b.types ps h (λ u m. m) sb cb)
    (λ as_ has. record { first = a; rest = as_; parts = refl; name = ha.name; levels = ha.levels; args = ha.args; all = (ha.is, has) }))
