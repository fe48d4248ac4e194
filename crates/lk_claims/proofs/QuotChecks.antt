-- The check of a constant of quotient types is right.
use Rattle.std.proofs.Common.{◌≡◌, Bool, true, false, ◌&&◌, nat_eq, List, [], ◌∷◌, length, Option, Some, None, refl, if◌then◌else◌}
use Rattle.lk_tree.specs.Tree.{Name, Tree}
use Rattle.lk_tree.specs.declared.rule.Rule.TheVariants.{QuotShape}
use Rattle.lk_rulebook.specs.Place.{Place, Entry, Kind, Ctor, a_type}
use Rattle.lk_rulebook.specs.Names.{eq, eq_refl, quot, quot_mk}
use Rattle.lk_tree.specs.Mentions.{same_name}
use Rattle.lk_rulebook.specs.Quotients.{IsQuot, HasEq, eq_type, eq_refl_type, ctors_from, Quotient, the_type, the_mk, the_lift, the_ind, quot_name, quot_type, RestsOn, IsQuotient}
use Rattle.lk_questions.specs.Program.{done}
use Rattle.lk_questions.specs.Quotients.{by_quot}
use Rattle.lk_questions.specs.QuotientUnits.{quotients, quotient_named, quot_given, is_eq_type, is_refl_type, is_refl_alone, is_eq, eq_shape, rests_steps, is_this, quotient_steps, quot_steps}
use Rattle.lk_questions.specs.Sound.{IsSound}
use Rattle.lk_questions.proofs.Soundness.{sound_bind, sound_map}
use Rattle.lk_claims.proofs.Pieces.{Some_inj, sound_given, halves, equal_numbers, same_tree, same_name_right}
use Rattle.lk_claims.proofs.Facts.{quot_kind}

sound_quot_given : (w : Place) (c : Name) → IsSound w (quot_given c) (λ u. IsQuot w c)
sound_quot_given w c = λ g m. sound_given w (by_quot g.kind) QuotShape (done tt) (λ u. IsQuot w c) (λ h. record { entry = g; given = m; kind = quot_kind g.kind h })

eq_level : (ps : List Name) (type : Tree) → is_eq_type ps type ≡ true → (u : Name) × (ps ≡ u ∷ []) × (type ≡ eq_type u)
eq_level (u ∷ []) type h = (u, refl, same_tree type (eq_type u) h)
eq_level [] type h = absurd cc
eq_level (u ∷ v ∷ ps) type h = absurd cc

refl_level : (ps : List Name) (type : Tree) → is_refl_type ps type ≡ true → (u : Name) × (ps ≡ u ∷ []) × (type ≡ eq_refl_type u)
refl_level (u ∷ []) type h = (u, refl, same_tree type (eq_refl_type u) h)
refl_level [] type h = absurd cc
refl_level (u ∷ v ∷ ps) type h = absurd cc

refl_alone : (cs : List Ctor) → is_refl_alone cs ≡ true → (c : Ctor) × (cs ≡ c ∷ []) × (c.name ≡ eq_refl) × (is_refl_type c.levels c.type ≡ true)
refl_alone (c ∷ []) h =
    let both : (same_name c.name eq_refl ≡ true) × (is_refl_type c.levels c.type ≡ true) = halves (same_name c.name eq_refl) (is_refl_type c.levels c.type) h in
    (c, refl, same_name_right c.name eq_refl both.0, both.1)
refl_alone [] h = absurd cc
refl_alone (c ∷ d ∷ cs) h = absurd cc

has_eq : (w : Place) (g : Entry) → w.means eq ≡ Some g → (k : Kind) → g.kind ≡ k → is_eq g k ≡ true → HasEq w
has_eq w g m (a_type block t) k h =
    let alone : Bool = is_refl_alone t.ctors in
    let one : Bool = nat_eq (length (ctors_from block.types)) 1 in
    let both : (is_eq_type g.levels g.type ≡ true) × ((alone && one) ≡ true) = halves (is_eq_type g.levels g.type) (alone && one) h in
    let more : (alone ≡ true) × (one ≡ true) = halves alone one both.1 in
    let u : (u : Name) × (g.levels ≡ u ∷ []) × (g.type ≡ eq_type u) = eq_level g.levels g.type both.0 in
    let c : (c : Ctor) × (t.ctors ≡ c ∷ []) × (c.name ≡ eq_refl) × (is_refl_type c.levels c.type ≡ true) = refl_alone t.ctors more.0 in
    let v : (v : Name) × (c.0.levels ≡ v ∷ []) × (c.0.type ≡ eq_refl_type v) = refl_level c.0.levels c.0.type c.3 in
    record {
      entry = g;
      block = block;
      inductive = t;
      ctor = c.0;
      level = u.0;
      ctor_level = v.0;
      given = m;
      kind = k;
      levels = u.1;
      type = u.2;
      one_ctor = (c.1, equal_numbers (length (ctors_from block.types)) 1 more.1);
      ctor_is = (c.2, v.1, v.2);
    }
has_eq w g m _ k h = absurd cc

sound_eq_shape : (w : Place) → IsSound w eq_shape (λ u. HasEq w)
sound_eq_shape w = λ g m. sound_given w (is_eq g g.kind) QuotShape (done tt) (λ u. HasEq w) (λ h. has_eq w g m g.kind refl h)

sound_rests : (w : Place) (q : Quotient) → IsSound w (rests_steps q) (λ u. RestsOn w q)
sound_rests w the_type = tt
sound_rests w the_mk = sound_quot_given w quot
sound_rests w the_lift = sound_bind w (quot_given quot) (λ u. eq_shape) (λ u. IsQuot w quot) (λ u. RestsOn w the_lift) (sound_quot_given w quot)
    (λ u i. sound_map w eq_shape (λ u. HasEq w) (λ u. RestsOn w the_lift) (λ u h. (i, h)) (sound_eq_shape w))
sound_rests w the_ind = sound_bind w (quot_given quot) (λ u. quot_given quot_mk) (λ u. IsQuot w quot) (λ u. RestsOn w the_ind) (sound_quot_given w quot)
    (λ u i. sound_map w (quot_given quot_mk) (λ u. IsQuot w quot_mk) (λ u. RestsOn w the_ind) (λ u h. (i, h)) (sound_quot_given w quot_mk))

this_right : (o : Option Tree) (type : Tree) → is_this o type ≡ true → o ≡ Some type
this_right (Some t) type h = rw (same_tree t type h) refl
this_right None type h = absurd cc

named_at : (q : Quotient) (qs : List Quotient) (c : Name) (r : Quotient) → (quotient_named qs c ≡ Some r → quot_name r ≡ c) →
    (b : Bool) → same_name (quot_name q) c ≡ b → (if b then Some q else quotient_named qs c) ≡ Some r → quot_name r ≡ c
named_at q qs c r h true e i = let j : q ≡ r = Some_inj i in rw (← j) (same_name_right (quot_name q) c e)
named_at q qs c r h false e i = h i

named_right : (qs : List Quotient) (c : Name) (r : Quotient) → quotient_named qs c ≡ Some r → quot_name r ≡ c
named_right [] c r e = absurd cc
named_right (q ∷ qs) c r e = named_at q qs c r (named_right qs c r) (same_name (quot_name q) c) refl e

sound_quotient : (w : Place) (c : Name) (ps : List Name) (type : Tree) (o : Option Quotient) → quotient_named quotients c ≡ o → IsSound w (quotient_steps o ps type) (λ u. IsQuotient w c ps type)
sound_quotient w c ps type None e = tt
sound_quotient w c ps type (Some q) e =
    sound_given w (is_this (quot_type q ps) type) QuotShape (rests_steps q) (λ u. IsQuotient w c ps type)
    (λ h. sound_map w (rests_steps q) (λ u. RestsOn w q) (λ u. IsQuotient w c ps type)
    (λ u r. record { constant = q; name_is = named_right quotients c q e; type_is = this_right (quot_type q ps) type h; rests = r }) (sound_rests w q))

pub sound_quot_steps : (w : Place) (c : Name) (ps : List Name) (type : Tree) → IsSound w (quot_steps c ps type) (λ u. IsQuotient w c ps type)
sound_quot_steps w c ps type = sound_quotient w c ps type (quotient_named quotients c) refl
