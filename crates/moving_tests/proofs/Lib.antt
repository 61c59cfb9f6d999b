mod LineSteps
