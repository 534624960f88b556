-- What goes over one link of a group where frames are sent.
use Rattle.std.proofs.Common.{◌≡◌, ℕ, zero, suc, ◌+◌, ◌≤◌, ◌<◌, ◌==◌, Bool, true, false, List, [], ◌∷◌, ◌++◌, length, nat_eq, if◌then◌else◌, Option, Some, refl, sym, ◌∙◌, ap, subst, arith, ⊎_elim, length-append}
use Rattle.std.proofs.lemmas.Bool.{cases_lt}
use Rattle.std.proofs.lemmas.List.{append-nil}
use Rattle.drm_links.specs.History.{GroupEvent, History, EventsHappen}
use Rattle.drm_links.specs.Alone.{gone_at}
use Rattle.drm_links.specs.Calls.{Call, Rest, Send, is_up, CallsCome, each, sends}
use Rattle.drm_links.proofs.AloneLemmas.{itself, another, gone_then}
use Rattle.drm_links.proofs.CallLemmas.{same_count}
use Rattle.drm_schedule.specs.declared.plan.Plan.{Plan}
use Rattle.drm_server.specs.declared.stretch.Stretch.{Stretch}
use Rattle.drm_server.specs.Stretch.{first_in, frames_in}
use Rattle.drm_server.specs.Datagrams.{IsDatagramAt, AreFirst, AreOfFrame, AreOfFrames, AreBefore}
use Rattle.drm_server.specs.Serving.{pause, turn, FramesCome}
use Rattle.drm_server.proofs.DatagramLemmas.{first_length}
use Rattle.drm_server.proofs.OneDelivery.{first_split}
use Rattle.drm_server.proofs.CallsAt.{called_at, Stands, Went, calls_went, calls_left}

-- ---- what is called for

called_then : (k : ℕ) (calls later : List Call) → called_at k (calls ++ later) ≡ called_at k calls ++ called_at k later
called_then k [] later = refl
called_then k (Rest j millis ∷ calls) later = called_then k calls later
called_then k (Send j bytes ∷ calls) later = by (nat_eq j k) (called_at k (calls ++ later)) (called_at k calls) (called_at k later) (called_then k calls later)
  where
    by : (b : Bool) (xs ys zs : List (List ℕ)) → xs ≡ ys ++ zs → (if b then bytes ∷ xs else xs) ≡ (if b then bytes ∷ ys else ys) ++ zs
    by true xs ys zs is = ap (λ l. bytes ∷ l) is
    by false xs ys zs is = is

called_pause : (b : Bool) (pace j k : ℕ) → called_at k (if b then [] else Rest j pace ∷ []) ≡ []
called_pause true pace j k = refl
called_pause false pace j k = refl

called_here : (k : ℕ) (datagrams : List (List ℕ)) → called_at k (sends k datagrams) ≡ datagrams
called_here k [] = refl
called_here k (bytes ∷ datagrams) =
    ap (λ (b : Bool). if b then bytes ∷ called_at k (sends k datagrams) else called_at k (sends k datagrams)) (itself k) ∙ ap (λ l. bytes ∷ l) (called_here k datagrams)

called_there : (j k : ℕ) (datagrams : List (List ℕ)) → (j ≡ k → ⊥) → called_at k (sends j datagrams) ≡ []
called_there j k [] other = refl
called_there j k (bytes ∷ datagrams) other =
    ap (λ (b : Bool). if b then bytes ∷ called_at k (sends j datagrams) else called_at k (sends j datagrams)) (another j k other) ∙ called_there j k datagrams other

module _ (pace n : ℕ) (datagrams : List (List ℕ)) (k : ℕ) where
  turn_of : (j : ℕ) → called_at k (turn pace n datagrams j) ≡ called_at k (sends j datagrams)
  turn_of j = called_then k (pause pace n j) (sends j datagrams) ∙ ap (λ l. l ++ called_at k (sends j datagrams)) (called_pause (n == 0) pace j k)

  round_below : (links : ℕ) → links ≤ k → called_at k (each (turn pace n datagrams) links) ≡ []
  round_below zero below = refl
  round_below (suc m) below =
      let other : m ≡ k → ⊥ = λ same. omega (arith, below, same) in
      called_then k (each (turn pace n datagrams) m) (turn pace n datagrams m)
      ∙ (ap (λ l. l ++ called_at k (turn pace n datagrams m)) (round_below m (omega (arith, below))) ∙ (turn_of m ∙ called_there m k datagrams other))

  -- of a round over all links, the datagrams of the frame
  round_of : (links : ℕ) → k < links → called_at k (each (turn pace n datagrams) links) ≡ datagrams
  round_of zero within = absurd (omega (arith, within))
  round_of (suc m) within =
      called_then k (each (turn pace n datagrams) m) (turn pace n datagrams m)
      ∙ ⊎_elim
      (λ (less : k < m).
      let other : m ≡ k → ⊥ = λ same. omega (arith, less, same) in
      ap (λ l. l ++ called_at k (turn pace n datagrams m)) (round_of m less) ∙ (ap (λ l. datagrams ++ l) (turn_of m ∙ called_there m k datagrams other) ∙ append-nil datagrams))
      (λ (not : m ≤ k).
      let same : k ≡ m = omega (arith, within, not) in
      ap (λ l. l ++ called_at k (turn pace n datagrams m)) (round_below m not) ∙ (turn_of m ∙ (ap (λ j. called_at k (sends j datagrams)) (sym same) ∙ called_here k datagrams)))
      (cases_lt k m)

-- ---- lists and events

same_split : (xs ys : List (List ℕ)) (x y : List ℕ) (more others : List (List ℕ)) → xs ++ x ∷ more ≡ ys ++ y ∷ others → length xs ≡ length ys → (xs ≡ ys) × (x ≡ y)
same_split [] [] x y more others is long = (refl, let e = is in cc)
same_split [] (b ∷ ys) x y more others is long = absurd (omega (arith, long))
same_split (a ∷ xs) [] x y more others is long = absurd (omega (arith, long))
same_split (a ∷ xs) (b ∷ ys) x y more others is long =
    let first : a ≡ b = cc in
    let rest : xs ++ x ∷ more ≡ ys ++ y ∷ others = cc in
    let further = same_split xs ys x y more others rest (omega (arith, long)) in
    ((λ i. first i ∷ further.0 i), further.1)

pub Happen-split : (events later : List GroupEvent) (x z : History) → EventsHappen (events ++ later) x z → (y : History) × EventsHappen events x y × EventsHappen later y z
Happen-split [] later x z happen = (x, refl, happen)
Happen-split (event ∷ events) later x z happen =
    let rest = Happen-split events later happen.0 z happen.2 in
    (rest.0, (happen.0, happen.1, rest.1), rest.2)

-- ---- frames

module _ (plan : Plan) (stretch : Stretch) (pace : ℕ) where
  abbrev first : ℕ
  first = first_in stretch

  pub frames_count : (n : ℕ) (u v : List Bool) (events : List GroupEvent) → FramesCome plan first pace n u events v → length v ≡ length u
  frames_count zero u v events come = ap (λ (l : List Bool). length l) come.1
  frames_count (suc n) u v events (before, mid, come, left, datagrams, are, frame, comes, is) =
      same_count (each (turn pace n datagrams) (length mid)) frame mid v comes ∙ frames_count n u mid before come

  module _ (k : ℕ) (taken : Option ℕ) where
    -- What went over it of n frames: all of their datagrams; or some first ones, and then it took no more.
    abbrev pub FramesWent : Bool → ℕ → List (List ℕ) → History → Type 0
    FramesWent true n gone history = AreOfFrames plan first n gone × Stands k taken gone history
    FramesWent false n gone history = (next : List ℕ) × AreBefore plan stretch next gone × (taken ≡ Some (length gone))

    frames_up : (b : Bool) (n : ℕ) (gone : List (List ℕ)) (history : History) → b ≡ true → AreOfFrames plan first n gone → Stands k taken gone history → FramesWent b n gone history
    frames_up true n gone history is are stands = (are, stands)
    frames_up false n gone history is are stands = absurd cc

    frames_down : (b : Bool) (n : ℕ) (gone : List (List ℕ)) (history : History) → b ≡ false → (next : List ℕ) → AreBefore plan stretch next gone → taken ≡ Some (length gone) → FramesWent b n gone history
    frames_down true n gone history is next before none = absurd cc
    frames_down false n gone history is next before none = (next, before, none)

    -- what stands before the datagram that wasn't taken
    before_next : (n : ℕ) (gone datagrams front : List (List ℕ)) (next : List ℕ) (rest : List (List ℕ)) → n < frames_in stretch plan → AreOfFrames plan first n gone → AreOfFrame plan (first + n) datagrams
        → datagrams ≡ front ++ next ∷ rest → AreBefore plan stretch next (gone ++ front)
    before_next n gone datagrams front next rest within frames (count, has, are) is =
        let t : ℕ = first + n in
        let many : length datagrams ≡ count = first_length plan t count datagrams are in
        let long : length datagrams ≡ length front + length (next ∷ rest) = ap (λ (l : List (List ℕ)). length l) is ∙ length-append front (next ∷ rest) in
        let less : length front < count = omega (arith, many, long) in
        let s = first_split plan t (length front) count datagrams less are in
        let size : length s.0 ≡ length front = first_length plan t (length front) s.0 s.3 in
        let same = same_split s.0 front s.1 next s.2 rest (sym s.5 ∙ is) size in
        record {
          n = n;
          within = within;
          i = length front;
          is_next = subst (λ (d : List ℕ). IsDatagramAt plan t (length front) d) same.1 s.4;
          of_frames = gone;
          are_of_frames = frames;
          of_frame = front;
          are_first = subst (λ (l : List (List ℕ)). AreFirst plan t (length front) l) same.0 s.3;
          are = refl;
        }

    frame_went : (b : Bool) (n : ℕ) (before datagrams gone : List (List ℕ)) (z : History) → n < frames_in stretch plan → AreOfFrames plan first n before → AreOfFrame plan (first + n) datagrams
        → Went b k taken before datagrams gone z → FramesWent b (suc n) gone z
    frame_went true n before datagrams gone z within frames are went = ((before, datagrams, frames, are, went.0), went.1)
    frame_went false n before datagrams gone z within frames are (front, next, rest, is, all, none) =
        (next, subst (λ (l : List (List ℕ)). AreBefore plan stretch next l) (sym all) (before_next n before datagrams front next rest within frames are is), none)

    one_more : (b : Bool) (n : ℕ) (before frame : List GroupEvent) (mid v : List Bool) (datagrams : List (List ℕ)) (y z : History) → is_up mid k ≡ b → k < length mid → n < frames_in stretch plan
        → FramesWent b n (gone_at k before) y → AreOfFrame plan (first + n) datagrams → CallsCome mid (each (turn pace n datagrams) (length mid)) frame v → EventsHappen frame y z
        → FramesWent (is_up v k) (suc n) (gone_at k (before ++ frame)) z
    one_more true n before frame mid v datagrams y z is among within went are comes happen =
        let calls : List Call = each (turn pace n datagrams) (length mid) in
        let all = calls_went k taken calls frame mid v y z (gone_at k before) comes happen is went.1 in
        subst (λ (l : List (List ℕ)). FramesWent (is_up v k) (suc n) l z) (sym (gone_then k before frame))
        (frame_went (is_up v k) n (gone_at k before) datagrams (gone_at k before ++ gone_at k frame) z within went.0 are
        (subst (λ (l : List (List ℕ)). Went (is_up v k) k taken (gone_at k before) l (gone_at k before ++ gone_at k frame) z) (round_of pace n datagrams k (length mid) among) all))
    one_more false n before frame mid v datagrams y z is among within went are comes happen =
        let calls : List Call = each (turn pace n datagrams) (length mid) in
        let left = calls_left k calls frame mid v comes is in
        let same : gone_at k (before ++ frame) ≡ gone_at k before = gone_then k before frame ∙ (ap (λ l. gone_at k before ++ l) left.0 ∙ append-nil (gone_at k before)) in
        subst (λ (l : List (List ℕ)). FramesWent (is_up v k) (suc n) l z) (sym same) (frames_down (is_up v k) (suc n) (gone_at k before) z left.1 went.0 went.1 went.2)

    pub frames_went : (n : ℕ) (u v : List Bool) (events : List GroupEvent) (x z : History) → FramesCome plan first pace n u events v → EventsHappen events x z → k < length u → is_up u k ≡ true → Stands k taken [] x
        → n ≤ frames_in stretch plan → FramesWent (is_up v k) n (gone_at k events) z
    frames_went zero u v events x z come happen among up stands within =
        let none : gone_at k events ≡ [] = ap (gone_at k) come.0 in
        let same : z ≡ x = subst (λ (l : List GroupEvent). EventsHappen l x z) come.0 happen in
        frames_up (is_up v k) 0 (gone_at k events) z (ap (λ l. is_up l k) come.1 ∙ up) none
        (subst (λ (h : History). Stands k taken (gone_at k events) h) (sym same) (subst (λ (l : List (List ℕ)). Stands k taken l x) (sym none) stands))
    frames_went (suc n) u v events x z (before, mid, come, left, datagrams, are, frame, comes, is) happen among up stands within =
        let parts = Happen-split before frame x z (subst (λ (l : List GroupEvent). EventsHappen l x z) is happen) in
        let went = frames_went n u mid before x parts.0 come parts.1 among up stands (omega (arith, within)) in
        let long = frames_count n u mid before come in
        subst (λ (l : List GroupEvent). FramesWent (is_up v k) (suc n) (gone_at k l) z) (sym is)
        (one_more (is_up mid k) n before frame mid v datagrams parts.0 z refl (omega (arith, among, long)) (omega (arith, within)) went are comes parts.2)
