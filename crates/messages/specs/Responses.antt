-- The responses, by kind: what a kind does not use is 0, false or empty.
use Rattle.std.specs.Prelude.{ℕ, Bool, false, List, [], length}
use Rattle.values.specs.declared.notification.Notification.{Notification}
use Rattle.messages.specs.declared.message.Message.{Message}
use Rattle.messages.specs.declared.response.Response.{Response}
use Rattle.messages.specs.declared.response.ResponseKind.{ResponseKind}
use Rattle.messages.specs.declared.response.ResponseKind.TheVariants.{Notifications, KeepAlive, StatusChange, TooManyRequests, NoSubscription}
use Rattle.messages.specs.Padded.{padded, counted}
use Rattle.messages.specs.Messages.{message_of}

-- the letter of a kind, as its character code: N, K, S, T, O
abbrev pub letter_of : ResponseKind → ℕ
letter_of Notifications = 78
letter_of KeepAlive = 75
letter_of StatusChange = 83
letter_of TooManyRequests = 84
letter_of NoSubscription = 79

-- a response of a kind, with the message that it shows and the kept numbers
abbrev pub response_of : ResponseKind → ℕ → ℕ → Message → List ℕ → Bool → Response
response_of kind handle id m kept more =
    record {
      kind = kind;
      handle = handle;
      subscription = id;
      number = m.number;
      kept = padded 8 0 kept;
      kept_count = length kept;
      more = more;
      notifications = m.notifications;
      count = m.count;
    }

-- a message with its notifications
abbrev pub notifying : ℕ → ℕ → Message → List ℕ → Bool → Response
notifying handle id m kept more = response_of Notifications handle id m kept more

-- a keep-alive, with the number of the next message
abbrev pub keeping_alive : ℕ → ℕ → ℕ → List ℕ → Response
keeping_alive handle id number kept = response_of KeepAlive handle id (message_of number []) kept false

-- the end of a subscription, with the number of its next message
abbrev pub changing_status : ℕ → ℕ → ℕ → Response
changing_status handle id number = response_of StatusChange handle id (message_of number []) [] false

-- a request that no subscription answers
abbrev pub refusing : ResponseKind → ℕ → Response
refusing kind handle = response_of kind handle 0 (message_of 0 []) [] false

-- the kept numbers that a response shows, oldest first
abbrev pub kept_shown : Response → List ℕ
kept_shown r = counted 8 r.kept_count r.kept

-- the notifications that a response shows, in order
abbrev pub notifications_shown : Response → List Notification
notifications_shown r = counted 16 r.count r.notifications
