mod SessionLemmas
mod ProgramLemmas
