pub mod SweepAnswers
