-- Lemmas on the text of a session.
use Rattle.std.proofs.Common.{◌≡◌, ℕ, ◌+◌, ◌<◌, ◌≤◌, List, [], ◌∷◌, ◌++◌, length, take, get_or, ap, sym, ◌∙◌, append_assoc, append-nil, take_all}
use Rattle.std.proofs.lemmas.Grind.{flat_map-append}
use Rattle.std.proofs.lemmas.List.{take_more}
use Rattle.go_report.specs.declared.reply.Reply.{Reply}
use Rattle.go_report.specs.ReplyText.{text_of, heading_of, texts_of, text_of_session}

-- a session with one more reply
text_of_session-push : (number : ℕ) (replies : List Reply) (reply : Reply) →
    text_of_session number (replies ++ reply ∷ []) ≡ text_of_session number replies ++ text_of reply
text_of_session-push number replies reply =
    let more : texts_of (replies ++ reply ∷ []) ≡ texts_of replies ++ text_of reply =
    flat_map-append text_of replies (reply ∷ []) ∙ ap (λ l. texts_of replies ++ l) (append-nil (text_of reply)) in
    ap (λ l. heading_of number ++ l) more ∙ sym (append_assoc (heading_of number) (texts_of replies) (text_of reply))

-- the text of a session up to the next reply, behind what was there
pub text_more : (old out : List ℕ) (number : ℕ) (replies : List Reply) (i : ℕ) (reply : Reply) → i < length replies → reply ≡ get_or replies i reply →
    out ≡ old ++ text_of_session number (take i replies) → out ++ text_of reply ≡ old ++ text_of_session number (take (i + 1) replies)
text_more old out number replies i reply within here so_far =
    let taken : take (i + 1) replies ≡ take i replies ++ reply ∷ [] = take_more replies i reply within
    ∙ ap (λ (r : Reply). take i replies ++ r ∷ []) (sym here) in
    rw (so_far, taken, append_assoc) (ap (λ l. old ++ l) (sym (text_of_session-push number (take i replies) reply)))

-- the heading alone
pub text_start : (old : List ℕ) (number : ℕ) → old ++ heading_of number ≡ old ++ text_of_session number []
text_start old number = ap (λ l. old ++ l) (sym (append-nil (heading_of number)))

-- the text of a session up to its last reply
pub text_all : (old out : List ℕ) (number : ℕ) (replies : List Reply) (i : ℕ) → length replies ≤ i →
    out ≡ old ++ text_of_session number (take i replies) → out ≡ old ++ text_of_session number replies
text_all old out number replies i all so_far = so_far ∙ ap (λ (rs : List Reply). old ++ text_of_session number rs) (take_all i replies all)
