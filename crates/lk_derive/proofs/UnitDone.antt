-- A section whose last line names all parts of a declaration that is answered yes.
use Rattle.std.proofs.Common.{◌≡◌, ℕ, [], ◌++◌, ap, subst, ◌∙◌}
use Rattle.lk_rulebook.specs.Place.{Place}
use Rattle.lk_rulebook.specs.Units.{Decl}
use Rattle.lk_store.specs.Contents.{Contents}
use Rattle.lk_premises.specs.Claims.{claims_at}
use Rattle.lk_trace.specs.declared.sections.Section.{Section}
use Rattle.lk_trace.specs.Meaning.{section_of}
use Rattle.lk_step.specs.Steps.{AreNamed}
use Rattle.lk_derive.specs.declared.parts.Parts.{Parts}
use Rattle.lk_derive.specs.Sections.{IsSectionOf}
use Rattle.lk_derive.specs.Units.{HasParts, parts_of, IsUnitSection}
use Rattle.lk_derive.specs.Parts.{parts_at, AddsParts}
use Rattle.lk_derive.proofs.UnitParts.{section_passes}

pub unit_section : (w w' : Place) (most : ℕ) (c d : Contents) (number : ℕ) (decl : Decl) (h : HasParts w most decl) (old new : Parts) → w' ≡ w → old.claims.items ≡ [] → AddsParts w c d old new (parts_of w most decl h) →
    (s : Section) → IsSectionOf w' d number (parts_at d new) s → IsUnitSection w d number decl s
unit_section w w' most c d number decl h old new place none adds s is =
    let are : parts_at d new ≡ parts_of w most decl h = adds.claims ∙ ap (λ ks. claims_at c ks ++ parts_of w most decl h) none in
    let i : IsSectionOf w d number (parts_at d new) s = subst (λ v. IsSectionOf v d number (parts_at d new) s) place is in
    record {
      of = i.of;
      section_in = i.section_in;
      passes = section_passes w most decl h (section_of d s) i.stated i.holds (record { are = subst (λ ks. AreNamed i.stated ks s.parts.items) are i.named });
    }
