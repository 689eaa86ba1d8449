-- Wants by their classes: which are shown in the lines `asked`, and which are a service's.
use Rattle.std.specs.Prelude.{◌≡◌, ℕ, Bool, true, false, List, map, filter}
use Rattle.mc_igmp.specs.declared.record.Record.{Record}
use Rattle.mc_asked.specs.declared.classified_wants.ClassifiedWants.{ClassifiedWants}
use Rattle.mc_asked.specs.declared.want_class.WantClass.{WantClass}
use Rattle.mc_asked.specs.declared.want_class.WantClass.TheVariants.{Answered, OnLan, Ignored, Service, Asked}
use Rattle.mc_asked.specs.Answers.{AnswersValue, class_of}
use Rattle.mc_asked.specs.ListWants.{Want}

-- whether wants of this class come into the lines `asked`
abbrev pub is_asked_class : WantClass → Bool
is_asked_class Answered = false
is_asked_class OnLan = false
is_asked_class Ignored = false
is_asked_class Service = false
is_asked_class Asked = true

-- whether wants of this class are a service's
abbrev pub is_service_class : WantClass → Bool
is_service_class Answered = false
is_service_class OnLan = false
is_service_class Ignored = false
is_service_class Service = true
is_service_class Asked = false

-- Of these wants, those of the class `Asked`, and the groups of those of the class `Service`.
pub record IsClassified (answers : AnswersValue) (lan : ℕ) (records : List Record) (wants : List Want)
    (classified : ClassifiedWants) : Type 0 where
  pub asked : classified.asked.items ≡ filter (λ want. is_asked_class (class_of answers lan records want))
      wants
  pub services : classified.services.items
      ≡ map (λ want. want.0) (filter (λ want. is_service_class (class_of answers lan records want)) wants)
