-- What a gateway hears and sends, turn by turn.
use Rattle.std.proofs.Common.{◌≡◌, ◌⊎◌, inl, inr, ℕ, Bool, List, [], ◌∷◌, ◌++◌, refl, sym, ◌∙◌, ap, subst, append_assoc}
use Rattle.std.proofs.lemmas.List.{append-nil}
use Rattle.std.proofs.lemmas.List.Concat.{flat_map-append}
use Rattle.dcp_pft.specs.declared.carry.Carry.{Carry}
use Rattle.drm_links.specs.Link.{Answer}
use Rattle.drm_links.specs.History.{GroupEvent, Received}
use Rattle.drm_links.specs.Calls.{Call, CallsCome}
use Rattle.drm_links.proofs.CallLemmas.{Come-then}
use Rattle.dcp_sender.specs.OverLinks.{over_each}
use Rattle.recv_reading.specs.declared.options.ReceiveOptions.{ReceiveOptions}
use Rattle.drm_gate.specs.Passing.{Outcome, datagrams_of, passing}
use Rattle.drm_gate.specs.Relaying.{HasBecome, RelayIsOver, RelaysPackets}

pub passing_more : (links : ℕ) (fates : List Outcome) (fate : Outcome) → passing links (fates ++ fate ∷ []) ≡ passing links fates ++ over_each links (datagrams_of fate)
passing_more links fates fate =
    flat_map-append (λ (f : Outcome). over_each links (datagrams_of f)) fates (fate ∷ []) ∙ ap (λ (l : List Call). passing links fates ++ l) (append-nil (over_each links (datagrams_of fate)))

module _ (rules : ReceiveOptions) (carry : Carry) (links : ℕ) (u : List Bool) where
  -- whatever follows from here follows these events
  abbrev pub Leads : List Answer → List Outcome → List Bool → List GroupEvent → Type 0
  Leads heard done v events =
      (answers : List Answer) (fates : List Outcome) (more : List GroupEvent) (w : List Bool) → RelaysPackets rules carry links heard done v answers fates more w
      → RelaysPackets rules carry links [] [] u (heard ++ answers) fates (events ++ more) w

  -- An answer was heard, and of what has become of it so much was passed on.
  pub record Turn (heard : List Answer) (done : List Outcome) (v : List Bool) (events : List GroupEvent) : Type 0 where
    pub before : List Answer
    pub answer : Answer
    pub heard_are : heard ≡ before ++ answer ∷ []
    pub earlier : List Outcome
    pub more : List Outcome
    pub done_are : done ≡ earlier ++ more
    pub at : List Bool
    pub start : List GroupEvent
    pub front : List GroupEvent
    pub events_are : events ≡ start ++ Received answer ∷ front
    pub goes_on : RelayIsOver rules before at → ⊥
    pub come : CallsCome at (passing links more) front v
    pub leads : Leads before earlier at start

  -- nothing was heard yet, or a turn is under way
  abbrev pub StandsAt : List Answer → List Outcome → List Bool → List GroupEvent → Type 0
  StandsAt heard done v events = ((heard ≡ []) × (done ≡ []) × (v ≡ u) × (events ≡ [])) ⊎ Turn heard done v events

  turn_leads : (heard : List Answer) (done : List Outcome) (v : List Bool) (events : List GroupEvent) → Turn heard done v events → HasBecome rules carry heard done v → Leads heard done v events
  turn_leads heard done v events t become answers fates more w relays =
      let become' : HasBecome rules carry (t.before ++ t.answer ∷ []) (t.earlier ++ t.more) v =
      subst (λ (l : List Answer). HasBecome rules carry l (t.earlier ++ t.more) v) t.heard_are (subst (λ (f : List Outcome). HasBecome rules carry heard f v) t.done_are become) in
      let behind : RelaysPackets rules carry links (t.before ++ t.answer ∷ []) (t.earlier ++ t.more) v answers fates more w =
      subst (λ (l : List Answer). RelaysPackets rules carry links l (t.earlier ++ t.more) v answers fates more w) t.heard_are
      (subst (λ (f : List Outcome). RelaysPackets rules carry links heard f v answers fates more w) t.done_are relays) in
      let here : RelaysPackets rules carry links t.before t.earlier t.at (t.answer ∷ answers) fates (Received t.answer ∷ t.front ++ more) w =
      (t.goes_on, t.more, t.front, v, more, refl, t.come, become', behind) in
      let all = t.leads (t.answer ∷ answers) fates (Received t.answer ∷ t.front ++ more) w here in
      let answers_are : t.before ++ t.answer ∷ answers ≡ heard ++ answers = sym (append_assoc t.before (t.answer ∷ []) answers) ∙ ap (λ (l : List Answer). l ++ answers) (sym t.heard_are) in
      let events_are : t.start ++ (Received t.answer ∷ t.front ++ more) ≡ events ++ more =
      sym (append_assoc t.start (Received t.answer ∷ t.front) more) ∙ ap (λ (l : List GroupEvent). l ++ more) (sym t.events_are) in
      subst (λ (l : List Answer). RelaysPackets rules carry links [] [] u l fates (events ++ more) w) answers_are
      (subst (λ (e : List GroupEvent). RelaysPackets rules carry links [] [] u (t.before ++ t.answer ∷ answers) fates e w) events_are all)

  none_leads : (heard : List Answer) (done : List Outcome) (v : List Bool) (events : List GroupEvent) → [] ≡ heard → [] ≡ done → u ≡ v → [] ≡ events → Leads heard done v events
  none_leads heard done v events h d up e =
      subst (λ (l : List Answer). Leads l done v events) h (subst (λ (f : List Outcome). Leads [] f v events) d
      (subst (λ (x : List Bool). Leads [] [] x events) up (subst (λ (l : List GroupEvent). Leads [] [] u l) e (λ answers fates more w relays. relays))))

  pub stands_leads : (heard : List Answer) (done : List Outcome) (v : List Bool) (events : List GroupEvent) → StandsAt heard done v events → HasBecome rules carry heard done v → Leads heard done v events
  stands_leads heard done v events (inl (h, d, up, e)) become = none_leads heard done v events (sym h) (sym d) (sym up) (sym e)
  stands_leads heard done v events (inr t) become = turn_leads heard done v events t become

  -- one answer more is heard
  pub hears : (heard : List Answer) (done : List Outcome) (v : List Bool) (events : List GroupEvent) (answer : Answer) → Leads heard done v events → (RelayIsOver rules heard v → ⊥)
      → Turn (heard ++ answer ∷ []) done v (events ++ Received answer ∷ [])
  hears heard done v events answer leads goes = record {
    before = heard;
    answer = answer;
    heard_are = refl;
    earlier = done;
    more = [];
    done_are = sym (append-nil done);
    at = v;
    start = events;
    front = [];
    events_are = refl;
    goes_on = goes;
    come = (refl, refl);
    leads = leads;
  }

  -- one item more is passed on
  pub passes : (heard : List Answer) (done : List Outcome) (v w : List Bool) (events front : List GroupEvent) (fate : Outcome) → Turn heard done v events → CallsCome v (over_each links (datagrams_of fate)) front w
      → Turn heard (done ++ fate ∷ []) w (events ++ front)
  passes heard done v w events front fate t come = record {
    before = t.before;
    answer = t.answer;
    heard_are = t.heard_are;
    earlier = t.earlier;
    more = t.more ++ fate ∷ [];
    done_are = ap (λ (l : List Outcome). l ++ fate ∷ []) t.done_are ∙ append_assoc t.earlier t.more (fate ∷ []);
    at = t.at;
    start = t.start;
    front = t.front ++ front;
    events_are = ap (λ (l : List GroupEvent). l ++ front) t.events_are ∙ append_assoc t.start (Received t.answer ∷ t.front) front;
    goes_on = t.goes_on;
    come = subst (λ (calls : List Call). CallsCome t.at calls (t.front ++ front) w) (sym (passing_more links t.more fate))
        (Come-then (passing links t.more) (over_each links (datagrams_of fate)) t.front front t.at v w t.come come);
    leads = t.leads;
  }

  -- it is over
  pub ends : (heard : List Answer) (done : List Outcome) (v : List Bool) (events : List GroupEvent) → Leads heard done v events → RelayIsOver rules heard v → RelaysPackets rules carry links [] [] u heard done events v
  ends heard done v events leads over =
      subst (λ (l : List Answer). RelaysPackets rules carry links [] [] u l done events v) (append-nil heard)
      (subst (λ (e : List GroupEvent). RelaysPackets rules carry links [] [] u (heard ++ []) done e v) (append-nil events) (leads [] done [] v (refl, refl, refl, over)))
