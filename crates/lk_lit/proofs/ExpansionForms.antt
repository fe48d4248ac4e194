-- The expansion of a text, by what is tested of the entry of String.
use Rattle.std.proofs.Common.{◌≡◌, ℕ, List, refl}
use Rattle.lk_rulebook.specs.Place.{Entry, Kind, a_def, a_thm, an_axiom, an_opaque, a_quot, a_type, a_ctor, a_rec}
use Rattle.lk_questions.specs.Program.{◌>>=◌}
use Rattle.lk_questions.specs.Shapes.{has_string_shape}
use Rattle.lk_questions.specs.Strings.{expansion_by}
use Rattle.lk_env.specs.Lent.{type_in}
use Rattle.lk_lit.specs.Expansions.{expanded_text}
use Rattle.lk_lit.specs.Shapes.{has_mk}

pub expansion_form : (s : List ℕ) (g : Entry) (k : Kind) → expansion_by s g k
    ≡ (has_string_shape g k >>= λ shaped. expanded_text s shaped (has_mk (type_in k)))
expansion_form s g (a_def h v) = refl
expansion_form s g (a_thm v) = refl
expansion_form s g an_axiom = refl
expansion_form s g (an_opaque v) = refl
expansion_form s g a_quot = refl
expansion_form s g (a_type b t) = refl
expansion_form s g (a_ctor b t k) = refl
expansion_form s g (a_rec r) = refl
