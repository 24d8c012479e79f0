-- The command that a list of words says.
use Rattle.std.specs.Prelude.{ℕ, cond, List, [], ◌∷◌, length, drop, Some, None, Ok, Err, vec_items, codes, Option, Result, ◌==◌, Float}
use Rattle.std.specs.List.{find}
use Rattle.std.specs.Option.{ok_or, option_map}
use Rattle.answers.specs.declared.acknowledgement.Acknowledgement.{Acknowledgement}
use Rattle.model.specs.declared.parameters.MonitoringParameters.{MonitoringParameters}
use Rattle.script_numbers.specs.Numbers.{number_of}
use Rattle.script_words.specs.Texts.{is_text}
use Rattle.script_words.specs.Words.{words_of}
use Rattle.subscriptions.specs.declared.parameters.SubscriptionParameters.{SubscriptionParameters}
use Rattle.scripts.specs.Arguments.{reading, word_at, number_at, signed_at, status_at, time_at, count_at, double_at, switch_at, policy_at, value_at, end_at, acknowledgements_of}
use Rattle.scripts.specs.declared.command.Command.{Command}
use Rattle.scripts.specs.declared.command.Command.TheVariants.{New, Split, Write, Certificate, Today, Room, Results, CreateSubscription, ModifySubscription, DeleteSubscription, SetPublishing, CreateItem, ModifyItem, DeleteItem, SetMode, Publish, Republish, Tick, Queued, Kept, Waiting}
use Rattle.scripts.specs.declared.expected.Expected.{Expected}
use Rattle.scripts.specs.declared.expected.Expected.TheVariants as expected
use Rattle.scripts.specs.declared.verb.Verb.{Verb}
use Rattle.scripts.specs.declared.verb.Verb.TheVariants as verb

-- a command, with the acknowledgements of a publish as a list
pub data Said : Type 0 where
  Plain : Command → Said
  Publishing : ℕ → List Acknowledgement → Said

abbrev pub said : Command → Said
said (New a) = Plain (New a)
said (Split a) = Plain (Split a)
said (Write a b c) = Plain (Write a b c)
said (Certificate a b) = Plain (Certificate a b)
said (Today a) = Plain (Today a)
said (Room a) = Plain (Room a)
said (Results a) = Plain (Results a)
said (CreateSubscription a b) = Plain (CreateSubscription a b)
said (ModifySubscription a b) = Plain (ModifySubscription a b)
said (DeleteSubscription a) = Plain (DeleteSubscription a)
said (SetPublishing a b) = Plain (SetPublishing a b)
said (CreateItem a b c d) = Plain (CreateItem a b c d)
said (ModifyItem a b c) = Plain (ModifyItem a b c)
said (DeleteItem a b) = Plain (DeleteItem a b)
said (SetMode a b c) = Plain (SetMode a b c)
said (Publish handle acknowledgements) = Publishing handle (vec_items acknowledgements)
said (Republish a b) = Plain (Republish a b)
said (Tick a) = Plain (Tick a)
said Queued = Plain Queued
said (Kept a) = Plain (Kept a)
said (Waiting a b) = Plain (Waiting a b)

abbrev pub said_by : Result Command Expected → Result Said Expected
said_by (Ok c) = Ok (said c)
said_by (Err e) = Err e

abbrev pub verbs : List (List ℕ × Verb)
verbs =
    (codes "new", verb.New) ∷
    (codes "split", verb.Split) ∷
    (codes "write", verb.Write) ∷
    (codes "certificate", verb.Certificate) ∷
    (codes "today", verb.Today) ∷
    (codes "room", verb.Room) ∷
    (codes "results", verb.Results) ∷
    (codes "create-subscription", verb.CreateSubscription) ∷
    (codes "modify-subscription", verb.ModifySubscription) ∷
    (codes "delete-subscription", verb.DeleteSubscription) ∷
    (codes "set-publishing", verb.SetPublishing) ∷
    (codes "create-item", verb.CreateItem) ∷
    (codes "modify-item", verb.ModifyItem) ∷
    (codes "delete-item", verb.DeleteItem) ∷
    (codes "set-mode", verb.SetMode) ∷
    (codes "republish", verb.Republish) ∷
    (codes "tick", verb.Tick) ∷
    (codes "queued", verb.Queued) ∷
    (codes "kept", verb.Kept) ∷
    (codes "waiting", verb.Waiting) ∷
    []

-- the first word of a command other than publish
unfoldable pub verb_of : List ℕ → Option Verb
verb_of word = option_map (λ e. e.1) (find (λ e. is_text word e.0) verbs)

-- the command, if the line ends with the words before this index
abbrev pub only : List (List ℕ) → ℕ → Command → Result Said Expected
only ws end c = reading (end_at ws end) (λ _. Ok (Plain c))

-- what was read, if no word is left behind it
abbrev pub ended_by : List (List ℕ) → Result Command Expected → Result Said Expected
ended_by left r = reading r (λ c. reading (end_at left 0) (λ _. Ok (said c)))

-- new FIRST
abbrev pub new_of : List (List ℕ) → Result Said Expected
new_of ws =
    reading (number_at ws 1) (λ first.
    only ws 2 (New first))

-- split N
abbrev pub split_of : List (List ℕ) → Result Said Expected
split_of ws =
    reading (number_at ws 1) (λ count.
    only ws 2 (Split count))

-- certificate NODE DAY
abbrev pub certificate_of : List (List ℕ) → Result Said Expected
certificate_of ws =
    reading (number_at ws 1) (λ node.
    reading (number_at ws 2) (λ day.
    only ws 3 (Certificate node day)))

-- today DAY
abbrev pub today_of : List (List ℕ) → Result Said Expected
today_of ws =
    reading (number_at ws 1) (λ day.
    only ws 2 (Today day))

-- room N
abbrev pub room_of : List (List ℕ) → Result Said Expected
room_of ws =
    reading (number_at ws 1) (λ count.
    only ws 2 (Room count))

-- MS K L M
abbrev pub subscription_of : List (List ℕ) → Result SubscriptionParameters Expected
subscription_of ws =
    reading (signed_at ws 0) (λ ms.
    reading (number_at ws 1) (λ keep.
    reading (number_at ws 2) (λ lifetime.
    reading (number_at ws 3) (λ limit.
    Ok (record { milliseconds = ms; keep_alive = keep; lifetime = lifetime; limit = limit })))))

-- create-subscription MS K L M on|off
abbrev pub create_subscription_of : List (List ℕ) → Result Said Expected
create_subscription_of ws =
    reading (subscription_of (drop 1 ws)) (λ parameters.
    reading (switch_at ws 5) (λ enabled.
    only ws 6 (CreateSubscription parameters enabled)))

-- modify-subscription SUB MS K L M
abbrev pub modify_subscription_of : List (List ℕ) → Result Said Expected
modify_subscription_of ws =
    reading (number_at ws 1) (λ id.
    reading (subscription_of (drop 2 ws)) (λ parameters.
    only ws 6 (ModifySubscription id parameters)))

-- delete-subscription SUB
abbrev pub delete_subscription_of : List (List ℕ) → Result Said Expected
delete_subscription_of ws =
    reading (number_at ws 1) (λ id.
    only ws 2 (DeleteSubscription id))

-- set-publishing SUB on|off
abbrev pub set_publishing_of : List (List ℕ) → Result Said Expected
set_publishing_of ws =
    reading (number_at ws 1) (λ id.
    reading (switch_at ws 2) (λ enabled.
    only ws 3 (SetPublishing id enabled)))

-- delete-item SUB ITEM
abbrev pub delete_item_of : List (List ℕ) → Result Said Expected
delete_item_of ws =
    reading (number_at ws 1) (λ subscription.
    reading (number_at ws 2) (λ item.
    only ws 3 (DeleteItem subscription item)))

-- set-mode SUB ITEM MODE
abbrev pub set_mode_of : List (List ℕ) → Result Said Expected
set_mode_of ws =
    reading (number_at ws 1) (λ subscription.
    reading (number_at ws 2) (λ item.
    reading (number_at ws 3) (λ mode.
    only ws 4 (SetMode subscription item mode))))

-- republish SUB NUMBER
abbrev pub republish_of : List (List ℕ) → Result Said Expected
republish_of ws =
    reading (number_at ws 1) (λ subscription.
    reading (number_at ws 2) (λ number.
    only ws 3 (Republish subscription number)))

-- tick [COUNT], 1 where it is left out
abbrev pub tick_of : List (List ℕ) → Result Said Expected
tick_of ws =
    reading (count_at ws 1) (λ count.
    only ws 2 (Tick count))

-- kept SUB
abbrev pub kept_of : List (List ℕ) → Result Said Expected
kept_of ws =
    reading (number_at ws 1) (λ subscription.
    only ws 2 (Kept subscription))

-- waiting SUB ITEM
abbrev pub waiting_of : List (List ℕ) → Result Said Expected
waiting_of ws =
    reading (number_at ws 1) (λ subscription.
    reading (number_at ws 2) (λ item.
    only ws 3 (Waiting subscription item)))

-- write NODE CODE VALUE [STATUS [TIME]], 0 where they are left out
abbrev pub write_of : List (List ℕ) → Option Float → Result Said Expected
write_of ws other =
    reading (number_at ws 1) (λ node.
    reading (number_at ws 2) (λ code.
    reading (value_at ws 3 other) (λ value.
    reading (status_at ws 4) (λ status.
    reading (time_at ws 5) (λ time.
    only ws 6 (Write node code (record { value = value; status = status; time = time })))))))

-- results N, or results match
abbrev pub results_of : List (List ℕ) → Result Said Expected
results_of ws =
    cond (is_text (word_at ws 1) (codes "match")) (only ws 2 (Results None))
    (reading (ok_or (number_of (word_at ws 1)) expected.NumberOrMatch) (λ count. only ws 2 (Results (Some count))))

-- TRIGGER TYPE D MS SIZE oldest|newest
abbrev pub monitoring_of : List (List ℕ) → ℕ → Option Float → Result MonitoringParameters Expected
monitoring_of ws handle other =
    reading (number_at ws 0) (λ trigger.
    reading (number_at ws 1) (λ type.
    reading (double_at ws 2 other) (λ width.
    reading (signed_at ws 3) (λ ms.
    reading (number_at ws 4) (λ size.
    reading (policy_at ws 5) (λ oldest.
    Ok (record {
      client_handle = handle;
      filter = record { trigger = trigger; deadband = type; deadband_value = width };
      sampling_interval = ms;
      queue_size = size;
      discard_oldest = oldest;
    })))))))

-- create-item SUB NODE HANDLE MODE TRIGGER TYPE D MS SIZE oldest|newest
abbrev pub create_item_of : List (List ℕ) → Option Float → Result Said Expected
create_item_of ws other =
    reading (number_at ws 1) (λ subscription.
    reading (number_at ws 2) (λ node.
    reading (number_at ws 3) (λ handle.
    reading (number_at ws 4) (λ mode.
    reading (monitoring_of (drop 5 ws) handle other) (λ parameters.
    only ws 11 (CreateItem subscription node mode parameters))))))

-- modify-item SUB ITEM HANDLE TRIGGER TYPE D MS SIZE oldest|newest
abbrev pub modify_item_of : List (List ℕ) → Option Float → Result Said Expected
modify_item_of ws other =
    reading (number_at ws 1) (λ subscription.
    reading (number_at ws 2) (λ item.
    reading (number_at ws 3) (λ handle.
    reading (monitoring_of (drop 4 ws) handle other) (λ parameters.
    only ws 10 (ModifyItem subscription item parameters)))))

-- queued
abbrev pub queued_of : List (List ℕ) → Result Said Expected
queued_of ws = only ws 1 Queued

abbrev pub plain_of : Verb → List (List ℕ) → Option Float → Result Said Expected
plain_of verb.New ws other = new_of ws
plain_of verb.Split ws other = split_of ws
plain_of verb.Write ws other = write_of ws other
plain_of verb.Certificate ws other = certificate_of ws
plain_of verb.Today ws other = today_of ws
plain_of verb.Room ws other = room_of ws
plain_of verb.Results ws other = results_of ws
plain_of verb.CreateSubscription ws other = create_subscription_of ws
plain_of verb.ModifySubscription ws other = modify_subscription_of ws
plain_of verb.DeleteSubscription ws other = delete_subscription_of ws
plain_of verb.SetPublishing ws other = set_publishing_of ws
plain_of verb.CreateItem ws other = create_item_of ws other
plain_of verb.ModifyItem ws other = modify_item_of ws other
plain_of verb.DeleteItem ws other = delete_item_of ws
plain_of verb.SetMode ws other = set_mode_of ws
plain_of verb.Republish ws other = republish_of ws
plain_of verb.Tick ws other = tick_of ws
plain_of verb.Queued ws other = queued_of ws
plain_of verb.Kept ws other = kept_of ws
plain_of verb.Waiting ws other = waiting_of ws

abbrev pub by_verb : List ℕ → List (List ℕ) → Option Float → Result Said Expected
by_verb word ws other = reading (ok_or (verb_of word) expected.Command) (λ v. plain_of v ws other)

-- publish HANDLE [SUB:NUMBER ..]
abbrev pub publish_of : List (List ℕ) → Result Said Expected
publish_of ws = reading (number_at ws 1) (λ handle. reading (acknowledgements_of (drop 2 ws)) (λ acknowledgements. Ok (Publishing handle acknowledgements)))

abbrev pub some_of : Result Said Expected → Result (Option Said) Expected
some_of (Ok s) = Ok (Some s)
some_of (Err e) = Err e

-- the command with this first word
abbrev pub starting_with : List ℕ → List (List ℕ) → Option Float → Result Said Expected
starting_with word ws other = cond (is_text word (codes "publish")) (publish_of ws) (by_verb word ws other)

-- no words are no command
abbrev pub command_of : List (List ℕ) → Option Float → Result (Option Said) Expected
command_of ws other = cond (length (word_at ws 0) == 0) (Ok None) (some_of (starting_with (word_at ws 0) ws other))

-- what a line says, where `other` is what the standard library reads of its Double
abbrev pub line_of : List ℕ → Option Float → Result (Option Said) Expected
line_of line other = command_of (words_of line) other
