-- A collector's steps over the answers of a link.
use Rattle.std.proofs.Common.{◌≡◌, ℕ, ◌<◌, List, [], ◌∷◌, ◌++◌, length, Option, None, Some, refl, sym, ◌∙◌, ap, subst, arith}
use Rattle.std.proofs.lemmas.List.{append-nil}
use Rattle.std.proofs.lemmas.List.Elements.{filter_map-append}
use Rattle.recv_reading.proofs.Common.{Answer, Datagram, Idle, End, datagram_of, Taken, CollectorState, made, CollectorItem, CollectorTakes, CollectorGives, CollectorSteps}
use Rattle.recv_reading.proofs.Common.{ReceiveOptions, datagrams, CollectorGave, HasGiven}
use Rattle.law_collect.specs.Laws.{OneRun}
use Rattle.law_collect.proofs.Runs.{steps_more}

pub gave_none : (rules : ReceiveOptions) → CollectorGave rules [] [] [] (made rules.window rules.reach rules.first)
gave_none rules = (refl, refl)

pub gave_datagram : (rules : ReceiveOptions) (xs : List Answer) (taken : List Taken) (items now : List CollectorItem) (c kept d : CollectorState) (bytes : List ℕ) (answer : Taken)
    → CollectorGave rules xs taken items c → CollectorTakes c bytes answer kept → CollectorGives kept now d
    → CollectorGave rules (xs ++ Datagram bytes ∷ []) (taken ++ answer ∷ []) (items ++ now) d
gave_datagram rules xs taken items now c kept d bytes answer gave takes gives =
    subst (λ v. CollectorSteps (made rules.window rules.reach rules.first) v (taken ++ answer ∷ []) (items ++ now) d) (sym (filter_map-append datagram_of xs (Datagram bytes ∷ [])))
    (steps_more (datagrams xs) taken items now (made rules.window rules.reach rules.first) c kept d bytes answer gave takes gives)

pub gave_idle : (rules : ReceiveOptions) (xs : List Answer) (taken : List Taken) (items : List CollectorItem) (c : CollectorState) → CollectorGave rules xs taken items c → CollectorGave rules (xs ++ Idle ∷ []) taken items c
gave_idle rules xs taken items c gave =
    subst (λ v. CollectorSteps (made rules.window rules.reach rules.first) v taken items c) (sym (filter_map-append datagram_of xs (Idle ∷ []) ∙ append-nil (datagrams xs))) gave

pub gave_end : (rules : ReceiveOptions) (xs : List Answer) (taken : List Taken) (items : List CollectorItem) (c : CollectorState) → CollectorGave rules xs taken items c → CollectorGave rules (xs ++ End ∷ []) taken items c
gave_end rules xs taken items c gave =
    subst (λ v. CollectorSteps (made rules.window rules.reach rules.first) v taken items c) (sym (filter_map-append datagram_of xs (End ∷ []) ∙ append-nil (datagrams xs))) gave

pub none_given : (rules : ReceiveOptions) (answers : List Answer) (frame_limit : Option ℕ) (taken : List Taken) (items : List CollectorItem) (c : CollectorState) → OneRun
    → CollectorGave rules answers taken items c → ((n : ℕ) → frame_limit ≡ Some n → length items < n) → HasGiven rules answers frame_limit → ⊥
none_given rules answers None taken items c one gave few h = h
none_given rules answers (Some n) taken items c one gave few (taken', other, end, h, enough) =
    let same : items ≡ other = (one (made rules.window rules.reach rules.first) end c (datagrams answers) taken' taken other items h gave).1 in
    let l : length items < n = few n refl in
    let s : length items ≡ length other = ap length same in
    omega (arith, l, s, enough)

pub steps_many : (c d : CollectorState) (ds : List (List ℕ)) (taken : List Taken) (items : List CollectorItem) → CollectorSteps c ds taken items d → length taken ≡ length ds
steps_many c d [] [] items s = refl
steps_many c d [] (a ∷ taken) items s = absurd s
steps_many c d (b ∷ ds) [] items s = absurd s
steps_many c d (b ∷ ds) (a ∷ taken) items (now, later, kept, mid, takes, gives, steps, are) =
    let e : length taken ≡ length ds = steps_many mid d ds taken later steps in omega (arith, e)
