pub mod ImageSteps
