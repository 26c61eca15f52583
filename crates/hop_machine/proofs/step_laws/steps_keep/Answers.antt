use Rattle.hop_machine.proofs.step_laws.steps_keep.Goals as goal

pub returns-clause-setup : goal.returns-clause-setup
returns-clause-setup c = λ e s o a b st. st.setup

pub returns-clause-ends : goal.returns-clause-ends
returns-clause-ends c = λ e s o a b st. st.ends

pub returns-clause-grows : goal.returns-clause-grows
returns-clause-grows c = λ e s o a b st. st.grows

pub returns-clause-known : goal.returns-clause-known
returns-clause-known c = λ e s o a b st. st.right
