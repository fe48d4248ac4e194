-- A declaration over a store that grows, and its section.
use Rattle.std.proofs.Common.{◌≡◌, ℕ, true, List, [], ◌∷◌, ◌++◌, Result, sym, subst}
use Rattle.std.specs.Prelude.{OnOk}
use Rattle.std.proofs.lemmas.Result.{on_ok_weaker}
use Rattle.lk_rulebook.specs.Place.{Place}
use Rattle.lk_rulebook.specs.Units.{Decl, of_decl, Library, place_of}
use Rattle.lk_written.specs.Section.{section_holds}
use Rattle.lk_store.specs.declared.memory.NoMemory.{NoMemory}
use Rattle.lk_store.specs.Contents.{Contents, Extends}
use Rattle.lk_env.specs.declared.unit.Declaration.{Declaration}
use Rattle.lk_env.specs.declared.unit.Unit.TheVariants as unit
use Rattle.lk_env.specs.Units.{declaration_at}
use Rattle.lk_env.proofs.Stays.{unit_stays}
use Rattle.lk_trace.specs.declared.sections.Section.{Section}
use Rattle.lk_trace.specs.Meaning.{section_of}
use Rattle.lk_trim.specs.Whole.{Kept}
use Rattle.lk_derive.specs.Units.{IsYes, IsUnitSection}
use Rattle.lk_derive.specs.Sides.{IsDeclarationIn}
use Rattle.lk_sections.specs.declared.trace.TraceWriter.{TraceWriter}
use Rattle.lk_sections.specs.Sections.{UnitSection}
use Rattle.lk_sections.specs.Stored.{unit_section_at, HasWritten}
use Rattle.leancheck.specs.Derived.{HasOneMore}
use Rattle.leancheck.proofs.Judging.{unit_on}

module _ (c d : Contents) (x : Extends c d) (k : Declaration) (known : IsDeclarationIn c k) where
  pub declaration_on : IsDeclarationIn d k
  declaration_on =
      let h = unit_on c d x (unit.Declaration k) (known.stated_in, known.body_in) in
      record { stated_in = h.0; body_in = h.1 }

  pub declaration_stays : declaration_at d k ≡ declaration_at c k
  declaration_stays =
      let same : of_decl (declaration_at d k) ≡ of_decl (declaration_at c k) = unit_stays c d x (unit.Declaration k) (known.stated_in, known.body_in) in
      cc

-- at the place that stands, and under the budget
pub yes_there : (c d : Contents) → Extends c d → (k : Declaration) → IsDeclarationIn c k → (v w : Place) (most budget : ℕ) → w ≡ v → budget ≡ most
    → IsYes v most (declaration_at c k) → IsYes w budget (declaration_at d k)
yes_there c d x k known v w most budget place enough h =
    subst (IsYes w budget) (sym (declaration_stays c d x k known))
    (subst (λ p. IsYes p budget (declaration_at c k)) (sym place)
    (subst (λ n. IsYes v n (declaration_at c k)) (sym enough) h))

-- one that says yes has a section more, where that is written
pub one_more_holds : (us : Library) (n budget : ℕ) (k : Decl) (d : Contents) (ks : List Kept) (ss : List UnitSection) (s : Section) (t : TraceWriter) (r : Result (Unit {0}) NoMemory)
    → ((e : Contents) → IsUnitSection (place_of us n []) e n k s → section_holds us n (section_of e s) ≡ true)
    → IsUnitSection (place_of us n []) d n k s → OnOk r (HasWritten d ks (ss ++ unit_section_at d s ∷ []) t) → OnOk r (HasOneMore us n d ks ss t)
one_more_holds us n budget k d ks ss s t r holds is written = on_ok_weaker r
    (λ w. record {
      section = section_of d s;
      holds = holds d is;
      written = subst (λ m. HasWritten d ks (ss ++ record { unit = m; section = section_of d s } ∷ []) t) is.of w;
    })
    written
