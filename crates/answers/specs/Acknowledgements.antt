-- The status code and the name of each result of an acknowledgement.
use Rattle.std.specs.Prelude.{ℕ, List, codes}
use Rattle.answers.specs.declared.acknowledgement.AcknowledgementResult.{AcknowledgementResult}
use Rattle.answers.specs.declared.acknowledgement.AcknowledgementResult.TheVariants.{Good, SubscriptionIdInvalid, SequenceNumberUnknown}

abbrev pub acknowledgement_status : AcknowledgementResult → ℕ
acknowledgement_status Good = 0
acknowledgement_status SubscriptionIdInvalid = 0x80280000
acknowledgement_status SequenceNumberUnknown = 0x807A0000

abbrev pub acknowledgement_name : AcknowledgementResult → List ℕ
acknowledgement_name Good = codes "Good"
acknowledgement_name SubscriptionIdInvalid = codes "Bad_SubscriptionIdInvalid"
acknowledgement_name SequenceNumberUnknown = codes "Bad_SequenceNumberUnknown"
