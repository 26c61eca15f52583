use Rattle.hop_machine.proofs.step_laws.takes_are_allowed.Goals as goal

pub returns-clause-message : goal.returns-clause-message
returns-clause-message c = λ e w p m a b st. st.tells.1

pub returns-clause-cut : goal.returns-clause-cut
returns-clause-cut c = λ e p m a b st. st.tells.1
